use Rattle.std.proofs.Common.{◌≡◌, ◌^◌, length}
use Rattle.transform.specs.Transform.{On, grid_of, transform}
use Rattle.heights.proofs.making.transform.Given as goal

abbrev pub invariant-loop-t : goal.invariant-loop-t
invariant-loop-t l =
    let m = l.shape.exponent in
    record { room : length l.line ≡ 64; so_far : On (2 ^ m) (λ i j. grid_of m l.values i j ≡ transform m l.t (grid_of m l.initial.values) i j) }
