use Rattle.std.proofs.Common.{vec_items, sym, ◌∙◌, arith}
use Rattle.std.proofs.lemmas.List.{with_items_is}
use Rattle.heights.proofs.Settling.{Settled, heights_span, coefficients_small, coefficients_defined, coefficients_back}
use Rattle.heights.proofs.Coefficients.of.Goals as goal
use Rattle.heights.proofs.Coefficients.of.Goals.{After-as_mut_slice}

-- what `transform` is given
given : (c : After-as_mut_slice) → Settled c.shape-shape.result.exponent (vec_items c.args.frame.now.cells) c.as_mut_slice.result.now
given c = rw c.shape-shape.ensures (record { whole = sym c.args.frame.now.cells.ok.0 ∙ c.args.frame.now.whole; stand = c.args.frame.now.allowed; are = c.as_mut_slice.ensures.value ∙ c.in_ok-values.ensures })

pub transform-requires-clause-span : goal.transform-requires-clause-span
transform-requires-clause-span c = heights_span (given c)

pub invariant_of-result-clause-small : goal.invariant_of-result-clause-small
invariant_of-result-clause-small c =
    let s = given (goal.at.invariant_of-result-clause-small c).After-as_mut_slice in
    rw (with_items_is c.in_ok-values.values c.transform.new.values (omega arith)) (coefficients_small s _ _ (omega arith) c.transform.ensures)

pub returns : goal.returns
returns c =
    let s = given (goal.at.returns c).After-as_mut_slice in
    let e = with_items_is c.in_ok-values.values c.transform.new.values (omega arith) in
    let x = c.shape-shape.ensures in
    record { shape = x; defined = rw (← x, e) (coefficients_defined s _ _ (omega arith) c.transform.ensures); back = rw (← x, e) (coefficients_back s _ _ (omega arith) c.transform.ensures) }
