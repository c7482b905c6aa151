use Rattle.std.proofs.Common.{◌+◌, ◌↔◌, IsTrue, subst, rules}
use Rattle.std.proofs.lemmas.Bool.{false≢true}
use Rattle.heights.specs.Coefficients.{coefficients_of}
use Rattle.ground.specs.Tells.{InRectangle, Reaches}
use Rattle.ground.proofs.Ranges.{any_from_Range}
use Rattle.ground.proofs.Searching.{rows_tell}
use Rattle.ground.proofs.bare.BareGrid.reaches.Goals as goal

pub returns : goal.returns
returns c =
    let b = c.args.self.now in
    let m = b.head.shape.exponent in
    let g = coefficients_of b.coefficients in
    let k = c.args.cells in
    let t = rows_tell m g c.least-least.result k.rows.start k.rows.end k.columns.start k.columns.end in
    let a = any_from_Range _ _ _ c.any.result (λ row. Reaches m g c.least-least.result (InRectangle row (row + 1) k.columns.start k.columns.end)) c.any.ensures.ran (λ x q h. search rules) (λ x q h. (search rules, λ y. absurd (false≢true (search rules)))) in
    subst (λ w. IsTrue c.any.result ↔ Reaches m g w (InRectangle k.rows.start k.rows.end k.columns.start k.columns.end)) c.least-least.ensures (λ y. t.0 (a.0 y), λ r. a.1 (t.1 r))
