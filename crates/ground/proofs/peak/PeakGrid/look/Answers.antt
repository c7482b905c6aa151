use Rattle.std.proofs.Common.{◌≡◌, suc, ◌-◌, ◌^◌, ◌<◌, ◌≤◌, leb, length, get_or, vec_items, sym, ap, ◌∙◌, arith}
use Rattle.std.proofs.lemmas.List.{get_or_read}
use Rattle.heights.specs.Coefficients.{coefficients_of}
use Rattle.ground.specs.Peaks.{peak_of}
use Rattle.ground.proofs.Depths.{depth_place, depth_tree}
use Rattle.ground.proofs.Looks.{peak_tells}
use Rattle.ground.proofs.Peaks.{above_le}
use Rattle.ground.proofs.peak.PeakGrid.look.Goals as goal

pub index-requires : goal.index-requires
index-requires c =
    let p = c.args.self.now in
    let l : suc c.args.tile.depth ≤ suc p.bare.head.shape.exponent = omega arith in
    omega (arith, c.place.ensures.within, above_le _ _ l, p.whole, p.peaks.ok.0)

pub returns : goal.returns
returns c =
    let p = c.args.self.now in
    let t = c.args.tile in
    let m = p.bare.head.shape.exponent in
    let s = m - t.depth in
    let g = coefficients_of p.bare.coefficients in
    let at = c.place.ensures.value ∙ depth_place m t.depth t.row t.column c.requires in
    let l : suc t.depth ≤ suc m = omega arith in
    let h : c.place.result < length (vec_items p.peaks) = omega (arith, c.place.ensures.within, above_le _ _ l, p.whole, p.peaks.ok.0) in
    let v : c.index.result.now ≡ peak_of g s t.row t.column =
    get_or_read (vec_items p.peaks) c.place.result c.index.result.now h c.index.ensures 0
    ∙ (ap (λ q. get_or (vec_items p.peaks) q 0) at ∙ p.right (record { side = s; row = t.row; column = t.column; within = depth_tree m t.depth t.row t.column c.requires t.row_in t.column_in })) in
    ap (λ w. leb w c.index.result.now) c.least.ensures ∙ (ap (leb (2 ^ c.args.plane.number)) v ∙ sym (peak_tells g c.args.plane.number s t.row t.column))
