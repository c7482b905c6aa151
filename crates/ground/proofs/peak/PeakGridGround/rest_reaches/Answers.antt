use Rattle.std.proofs.Common.{◌≡◌, ◌-◌, ◌<◌, ◌↔◌, true, IsTrue, ap, ◌∙◌, subst, rules, arith}
use Rattle.std.proofs.lemmas.Bool.{false≢true}
use Rattle.head.specs.declared.Head.{Head}
use Rattle.head.specs.declared.Shape.{Shape}
use Rattle.heights.specs.Coefficients.{coefficients_of}
use Rattle.ground.specs.Tells.{RestTells}
use Rattle.ground.proofs.Looks.{ring, rest_tells_exactly, rings_tell}
use Rattle.ground.proofs.Parts.{rest_none}
use Rattle.ground.proofs.Ranges.{any_from_Range}
use Rattle.ground.proofs.peak.PeakGridGround.rest_reaches.Goals as goal

pub returns-in_default : goal.returns-in_default
returns-in_default c =
    let x = ap (λ (s : Shape). s.exponent) c.shape-shape.ensures ∙ ap (λ (h : Head). h.shape.exponent) c.head.ensures in
    (λ f. absurd (false≢true f), λ t. absurd (rest_none _ _ c.args.inner c.args.plane (λ k h p. c.in_default.ensures k (omega (arith, x)) p) t))

pub returns : goal.returns
returns c =
    let p = c.args.self.now.bare in
    let g = coefficients_of p.coefficients in
    let m = p.head.shape.exponent in
    let x = ap (λ (s : Shape). s.exponent) c.shape-shape.ensures ∙ ap (λ (h : Head). h.shape.exponent) c.head.ensures in
    let n = c.in-Some-Some.plane in
    let is : n.number ≡ c.args.plane = search rules in
    let a = any_from_Range _ _ _ c.any.result (λ s. ring g n.number s ≡ true) c.any.ensures.ran (λ s q h. search rules) (λ s q h. (search rules, λ y. absurd (false≢true (search rules)))) in
    let k = c.in-Some-Some.exponent in
    let h : k < m = omega (arith, x, c.in-Some-Some.ensures.0) in
    let r = rings_tell g n.number (m - k) k c.exponent.result (omega (arith, c.exponent.ensures, x)) in
    let t = rest_tells_exactly m g n.number k c.args.inner h c.in-Some-Some.ensures.1 n.low in
    subst (λ v. IsTrue c.any.result ↔ RestTells m g c.args.inner v) is (λ y. t.0 (r.0 (a.0 y)), λ q. a.1 (r.1 (t.1 q)))
