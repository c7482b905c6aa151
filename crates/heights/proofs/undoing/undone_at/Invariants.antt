use Rattle.heights.proofs.Walks.{Walked}
use Rattle.heights.proofs.undoing.undone_at.Given as goal

abbrev pub invariant-loop-t : goal.invariant-loop-t
invariant-loop-t g l = Walked (g.G.CoefficientGrid.shaped l.grid).exponent (g.G.CoefficientGrid.shaped l.grid).levels l.row l.column (g.G.CoefficientGrid.coefs l.grid) l.t l.height
