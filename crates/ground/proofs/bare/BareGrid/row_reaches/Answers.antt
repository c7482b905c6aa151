use Rattle.std.proofs.Common.{◌≡◌, ◌+◌, ◌^◌, ◌↔◌, IsTrue, length, ap, ◌∙◌, subst, arith}
use Rattle.head.specs.declared.Shape.{Shape}
use Rattle.heights.specs.Coefficients.{coefficients_of}
use Rattle.transform.specs.Transform.{grid_of}
use Rattle.ground.specs.Tells.{InRectangle, Reaches}
use Rattle.ground.specs.declared.bare.BareGrid.{BareGrid}
use Rattle.ground.proofs.Searching.{row_end, row_tells}
use Rattle.ground.proofs.bare.BareGrid.row_reaches.Goals as goal

whole : (b : BareGrid) → length b.coefficients.values.items ≡ 4 ^ b.head.shape.exponent
whole b = omega (arith, b.coefficients.values.ok.0, b.coefficients.whole, ap (λ e. 4 ^ e) b.sized)

pub slice_bounds-some_reach-end : goal.slice_bounds-some_reach-end
slice_bounds-some_reach-end c =
    let s = c.side.ensures.value ∙ ap (λ (s : Shape). 2 ^ s.exponent) c.shape.ensures in
    let w = ap length c.values.ensures ∙ whole c.args.self.now in
    let e = row_end _ c.side.result c.args.row c.args.columns.now.end _ s w (omega arith) (omega arith) in
    omega arith

pub returns : goal.returns
returns c =
    let b = c.args.self.now in
    let m = b.head.shape.exponent in
    let k = c.args.columns.now in
    let s = c.side.ensures.value ∙ ap (λ (s : Shape). 2 ^ s.exponent) c.shape.ensures in
    let w = ap length c.values.ensures ∙ whole b in
    let same : grid_of m c.values.result.now ≡ coefficients_of b.coefficients = ap (λ e. grid_of e c.values.result.now) b.sized ∙ ap (grid_of b.coefficients.shape.exponent) c.values.ensures in
    let t = row_tells m c.side.result c.values.result.now c.args.row k.start k.end c.args.least s w c.requires.row c.requires.columns c.requires.across in
    subst (λ g. IsTrue c.some_reach.result ↔ Reaches m g c.args.least (InRectangle c.args.row (c.args.row + 1) k.start k.end)) same (λ y. t.0 (c.some_reach.ensures.0 y), λ r. c.some_reach.ensures.1 (t.1 r))
