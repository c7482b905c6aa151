use Rattle.std.proofs.Common.{arith}
use Rattle.head.proofs.Squares.{cell_in}
use Rattle.heights.proofs.undoing.map.Goals as goal

pub undone_at-requires-clause-row_in : goal.undone_at-requires-clause-row_in
undone_at-requires-clause-row_in g c = grind (arith, cell_in)
