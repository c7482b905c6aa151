use Rattle.std.proofs.Common.{◌≡◌, ◌-◌, ◌↔◌, IsTrue, sym, ap, ◌∙◌, subst, rules, arith}
use Rattle.head.specs.declared.Head.{Head}
use Rattle.head.specs.declared.Shape.{Shape}
use Rattle.heights.specs.Coefficients.{coefficients_of}
use Rattle.speck.specs.Grid.{significant}
use Rattle.speck.specs.Laws.{InPlace}
use Rattle.speck.specs.declared.Part.TheVariants.{Block}
use Rattle.ground.specs.Tells.{BlockTells}
use Rattle.ground.proofs.Looks.{block_tells_exactly, place_tree, unit_back}
use Rattle.ground.proofs.Parts.{side_below}
use Rattle.ground.proofs.peak.PeakGridGround.block_reaches.Goals as goal

pub overflow_sub-tile : goal.overflow_sub-tile
overflow_sub-tile c =
    let b = c.args.block in
    omega (arith, c.exponent.ensures, side_below c.shape-shape.result.exponent b.side b.row b.column (c.is_in_place.ensures.0 c.if-not-is_in_place.false))

pub overflow_shr-tile : goal.overflow_shr-tile
overflow_shr-tile c =
    let b = c.args.block in
    omega (arith, c.shape-shape.result.small, side_below c.shape-shape.result.exponent b.side b.row b.column (c.is_in_place.ensures.0 c.if-not-is_in_place.false))

pub overflow_shr-tile-2 : goal.overflow_shr-tile-2
overflow_shr-tile-2 c =
    let b = c.args.block in
    omega (arith, c.shape-shape.result.small, side_below c.shape-shape.result.exponent b.side b.row b.column (c.is_in_place.ensures.0 c.if-not-is_in_place.false))

pub invariant_of-tile : goal.invariant_of-tile
invariant_of-tile c =
    let b = c.args.block in
    let m = c.shape-shape.result.exponent in
    let at = c.is_in_place.ensures.0 c.if-not-is_in_place.false in
    let t = place_tree m b.side b.row b.column at (side_below m b.side b.row b.column at) in
    rw c.exponent.ensures (record { deep = omega (arith, c.shape-shape.result.small); row_in = t.row; column_in = t.column })

pub returns : goal.returns
returns c =
    let x = ap (λ (s : Shape). s.exponent) c.shape-shape.ensures ∙ ap (λ (h : Head). h.shape.exponent) c.head.ensures in
    let s = c.args.block.side in
    let row = c.args.block.row in
    let column = c.args.block.column in
    let p = c.args.self.now.bare in
    let m = p.head.shape.exponent in
    let g = coefficients_of p.coefficients in
    let n = c.in-Some.plane in
    let is : n.number ≡ c.args.plane = search rules in
    let at : InPlace m (Block s row column) = subst (λ k. InPlace k (Block s row column)) x (c.is_in_place.ensures.0 c.if-not-is_in_place.false) in
    let d : m - (c.exponent.result - s) ≡ s = omega (arith, c.exponent.ensures, side_below m s row column at) in
    let e : c.look.result ≡ significant g n.number (Block s row column) = (rw (d, unit_back row s at.2, unit_back column s at.3) at c.look.ensures) in
    subst (λ k. IsTrue c.look.result ↔ BlockTells m g row column s k) is
    (subst (λ b. IsTrue b ↔ BlockTells m g row column s n.number) (sym e) (block_tells_exactly m g n.number s row column at n.low))
