use Rattle.std.proofs.Common.{◌≡◌, ℕ, ◌/◌, ◌%◌, ◌^◌, ◌<◌, get_or, pos}
use Rattle.transform.specs.Transform.{undone}
use Rattle.heights.proofs.undoing.map.Given as goal

abbrev pub invariant-loop-p : goal.invariant-loop-p
invariant-loop-p g l =
    let s = g.G.CoefficientGrid.shaped l.grid in
    (k : ℕ) → k < l.p → get_or l.heights k (pos 0) ≡ undone s.exponent s.levels (g.G.CoefficientGrid.coefs l.grid) (k / 2 ^ s.exponent) (k % 2 ^ s.exponent)
