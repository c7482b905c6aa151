use Rattle.std.proofs.Common.{◌≡◌, ◌^◌, ◌<◌, ◌↔◌, IsTrue, ap, ◌∙◌, subst, inl, inr, rules, arith}
use lib.Pow.{pow-lt}
use Rattle.std.proofs.lemmas.Bool.{both_ways, false≢true}
use Rattle.head.specs.declared.Shape.{Shape}
use Rattle.heights.specs.Coefficients.{coefficients_of}
use Rattle.ground.specs.Tells.{RestTells}
use Rattle.ground.proofs.Parts.{outside_below, outside_either, rest_none}
use Rattle.ground.proofs.bare.BareGridGround.rest_reaches.Goals as goal

pub returns-in_default : goal.returns-in_default
returns-in_default c =
    let e = ap (λ (s : Shape). s.exponent) c.shape-shape.ensures in
    (λ f. absurd (false≢true f), λ t. absurd (rest_none _ _ c.args.inner c.args.plane (λ x h p. c.in_default.ensures x (omega arith) p) t))

-- the square is smaller than the grid
inner_small : (c : goal.After-side-side) → c.args.inner < c.side-side.result
inner_small c = let x = c.in-Some-Some.ensures in omega (arith, x.1, pow-lt {i = c.in-Some-Some.field-0-1} {j = c.shape-shape.result.exponent} x.0, c.side-side.ensures.value)

pub reaches-requires-clause-rows : goal.reaches-requires-clause-rows
reaches-requires-clause-rows c = let e = ap (λ (s : Shape). 2 ^ s.exponent) c.shape-shape.ensures in omega (arith, inner_small c, c.side-side.ensures.value)

pub reaches-requires-clause-across : goal.reaches-requires-clause-across
reaches-requires-clause-across c = omega (arith, inner_small c)

pub returns-else-reaches : goal.returns-else-reaches
returns-else-reaches c =
    let m = c.args.self.now.head.shape.exponent in
    let g = coefficients_of c.args.self.now.coefficients in
    let n = c.in-Some-Some.plane in
    let is : n.number ≡ c.args.plane = search rules in
    let p = c.in-Some-Some.ensures in
    let e = ap (λ (s : Shape). 2 ^ s.exponent) c.shape-shape.ensures in
    subst (λ k. IsTrue c.reaches-else-reaches.result ↔ RestTells m g c.args.inner k) is (
      λ y. record { exponent = c.in-Some-Some.field-0-1; power = p.1; plane = n.low; reaches = outside_below m g c.args.inner (2 ^ n.number) c.side-side.result (c.reaches-else-reaches.ensures.0 y) },
      λ t. elim (outside_either m g c.args.inner (2 ^ n.number) c.side-side.result (c.side-side.ensures.value ∙ e) t.reaches) [
        | inl q ↦ absurd (both_ways _ c.if-reaches.false (c.reaches.ensures.1 q))
        | inr q ↦ c.reaches-else-reaches.ensures.1 q
      ],
    )
