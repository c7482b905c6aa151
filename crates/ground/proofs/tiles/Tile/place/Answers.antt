use Rattle.std.proofs.Common.{arith}
use Rattle.std.proofs.lemmas.Nat.{one_shl}
use Rattle.ground.proofs.Peaks.{above_small, place_below}
use Rattle.ground.proofs.tiles.Tile.place.Goals as goal

pub overflow_add-result-2 : goal.overflow_add-result-2
overflow_add-result-2 c =
    let t = c.args.self in
    rw (one_shl t.depth 64 (omega (arith, t.deep)), c.above_depth.ensures) (omega (arith, place_below t.depth t.row t.column t.row_in t.column_in, above_small t.depth t.deep))

pub returns-clause-within : goal.returns-clause-within
returns-clause-within c =
    let t = c.args.self in
    rw (one_shl t.depth 64 (omega (arith, t.deep)), c.above_depth.ensures) (place_below t.depth t.row t.column t.row_in t.column_in)
