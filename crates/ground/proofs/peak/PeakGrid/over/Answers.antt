use Rattle.std.proofs.Common.{◌≡◌, suc, ◌+◌, ◌-◌, length, sym, ap, ◌∙◌, subst, add-one, arith}
use Rattle.std.proofs.lemmas.List.{with_items_is}
use Rattle.head.specs.declared.Shape.{Shape}
use Rattle.heights.specs.Coefficients.{coefficients_of}
use Rattle.ground.specs.Peaks.{Filled, Right, above}
use Rattle.ground.proofs.Peaks.{all_right}
use Rattle.ground.proofs.peak.PeakGrid.over.Goals as goal

pub invariant_of-result : goal.invariant_of-result
invariant_of-result c =
    let k = c.args.coefficients in
    let new = c.fill.new.peaks in
    let x : c.exponent-exponent.result ≡ k.shape.exponent = c.exponent-exponent.ensures ∙ ap (λ (s : Shape). s.exponent) c.shape.ensures in
    let n : c.above_depth.result ≡ above (suc k.shape.exponent) = c.above_depth.ensures ∙ ap above (ap (λ e. e + 1) x ∙ add-one k.shape.exponent) in
    let l : c.in_ok-peaks.peaks.len ≡ above (suc k.shape.exponent) = c.in_ok-peaks.ensures.len ∙ n in
    let v : length new ≡ c.in_ok-peaks.peaks.len = omega arith in
    let z : k.shape.exponent - 0 ≡ k.shape.exponent = omega arith in
    let f : Filled k.shape.exponent (coefficients_of k) k.shape.exponent 0 0 c.as_mut_slice.result.now new = rw z at c.fill.ensures.filled in
    rw (ap (λ (s : Shape). s.exponent) c.over-bare.ensures.shape, c.over-bare.ensures.coefficients) (record {
      whole = l;
      right = λ node. subst (λ ps. Right k.shape.exponent (coefficients_of k) ps node.side node.row node.column) (sym (with_items_is c.in_ok-peaks.peaks new v))
          (all_right k.shape.exponent (coefficients_of k) _ new f node.side node.row node.column node.within);
    })
