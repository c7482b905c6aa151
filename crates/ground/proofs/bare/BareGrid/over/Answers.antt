use Rattle.std.proofs.Common.{sym, ap, subst}
use Rattle.head.specs.declared.Shape.{Shape}
use Rattle.heights.specs.Coefficients.{coefficients_of}
use Rattle.transform.specs.Planes.{PlaneCount}
use Rattle.ground.proofs.bare.BareGrid.over.Goals as goal

pub invariant_of-result : goal.invariant_of-result
invariant_of-result c =
    let k = c.args.coefficients in
    let h = c.head-head.result in
    let e = ap (λ (s : Shape). s.exponent) c.head-head.ensures.shape in
    let p : PlaneCount h.shape.exponent (coefficients_of k) h.planes = subst (λ m. PlaneCount m (coefficients_of k) h.planes) (sym e) c.head-head.ensures.planes in
    record { sized = e; enough = p.enough; least = p.least }
