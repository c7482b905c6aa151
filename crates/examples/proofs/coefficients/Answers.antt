use Rattle.std.proofs.Common.{◌≡◌, ap, ◌∙◌, rules}
use Rattle.std.proofs.lemmas.Result.{IfOk-weaker}
use Rattle.head.specs.Heads.{shape_fault}
use Rattle.head.proofs.Outcomes.{answers_value}
use Rattle.heights.specs.Coefficients.{Transformed, coefficients_of}
use Rattle.transform.specs.Transform.{On}
use Rattle.examples.specs.Worked.{coefficients2}
use Rattle.examples.proofs.Table.{made2, told, worked}
use Rattle.examples.proofs.coefficients.Goals as goal

pub returns : goal.returns
returns c =
    let s = answers_value c.new.result (shape_fault 1 1) _ c.unwrap-shape.result c.new.ensures c.unwrap-shape.ensures in
    let f = c.in_ok-frame.frame in
    let m : f.shape.exponent ≡ 1 = ap (λ x. x.exponent) c.in_ok-frame.ensures.0 ∙ s.0 in
    let k : f.shape.levels ≡ 1 = ap (λ x. x.levels) c.in_ok-frame.ensures.0 ∙ s.1 in
    let e₁ = c.enter.ensures.shape in
    let e₂ = c.enter-2.ensures.shape ∙ e₁ in
    let e₃ = c.enter-3.ensures.shape ∙ e₂ in
    let e = c.close.ensures.shape ∙ c.enter-4.ensures.shape ∙ e₃ in
    let t = told _ _ _ _ _ _ _ _ _ _ s.0 m (ap (λ x. x.exponent) e₁ ∙ m) (ap (λ x. x.exponent) e₂ ∙ m) (ap (λ x. x.exponent) e₃ ∙ m) c.in_ok-frame.ensures.1 c.enter.ensures.cells c.enter-2.ensures.cells c.enter-3.ensures.cells c.enter-4.ensures.cells in
    record { table = worked; made = IfOk-weaker c.of.result (λ x. Transformed c.close.result x) (λ x. On 2 (λ i j. coefficients_of x i j ≡ coefficients2 i j)) (λ x h. made2 _ _ _ (coefficients_of x) (ap (λ x. x.exponent) e ∙ m) (ap (λ x. x.levels) e ∙ k) (c.close.ensures.cells ∙ t) h.defined) c.of.ensures }

pub returns-in_err-frame : goal.returns-in_err-frame
returns-in_err-frame c = record { table = worked; made = search rules }
