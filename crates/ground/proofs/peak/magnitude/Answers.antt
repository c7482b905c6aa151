use Rattle.std.proofs.Common.{◌*◌, ◌^◌, length, ap, ◌∙◌, arith}
use Rattle.head.proofs.Squares.{place_in}
use Rattle.head.specs.declared.Shape.{Shape}
use Rattle.ground.proofs.peak.magnitude.Goals as goal

pub bounds-values-row : goal.bounds-values-row
bounds-values-row c =
    let k = c.args.coefficients.now in
    let e = ap (λ n. c.args.row * n) (c.side-side.ensures.value ∙ ap (λ (s : Shape). 2 ^ s.exponent) c.shape.ensures) in
    let l = ap length c.values.ensures in
    omega (arith, place_in k.shape.exponent c.args.row c.args.column c.requires.row_in c.requires.column_in, k.whole, k.values.ok.0)
