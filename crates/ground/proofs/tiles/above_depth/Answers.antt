use Rattle.ground.proofs.Peaks.{above_table}
use Rattle.ground.proofs.tiles.above_depth.Goals as goal

pub returns : goal.returns
returns c = rw c.from.ensures (above_table c.args.depth c.requires)
