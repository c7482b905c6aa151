use Rattle.std.proofs.Common.{rules}
use Rattle.bits.proofs.Writes.{written_marked}
use Rattle.bits.proofs.put.Goals as goal

pub returns-clause-packs : goal.returns-clause-packs
returns-clause-packs c ts old long l w =
    let bytes = c.args.out.now in
    written_marked ts c.args.b old bytes _ c.args.i long l w (search rules)
