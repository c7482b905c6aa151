use Rattle.std.proofs.Common.{arith}
use Rattle.head.proofs.Squares.{side_small}
use Rattle.ground.proofs.Parts.{side_below}
use Rattle.ground.proofs.bare.BareGridGround.block_reaches.Goals as goal

pub cells-requires-clause-small : goal.cells-requires-clause-small
cells-requires-clause-small c = let b = c.args.block in omega (arith, c.shape.result.small, side_below c.shape.result.exponent b.side b.row b.column (c.is_in_place.ensures.0 c.if-is_in_place.true))

pub cells-requires-clause-row : goal.cells-requires-clause-row
cells-requires-clause-row c = omega (arith, (c.is_in_place.ensures.0 c.if-is_in_place.true).0, side_small c.shape.result.exponent c.shape.result.small)

pub cells-requires-clause-column : goal.cells-requires-clause-column
cells-requires-clause-column c = omega (arith, (c.is_in_place.ensures.0 c.if-is_in_place.true).1, side_small c.shape.result.exponent c.shape.result.small)
