use Rattle.std.proofs.Common.{◌≡◌, suc, ◌+◌, ◌-◌, ◌*◌, ◌≤◌, ◌∙◌, max, sym, refl, ap, arith}
use Rattle.head.specs.declared.Shape.{Shape}
use Rattle.heights.specs.Coefficients.{coefficients_of}
use Rattle.ground.specs.Peaks.{peak_of}
use Rattle.ground.proofs.Depths.{depth_place, depth_tree, renamed}
use Rattle.ground.proofs.Peaks.{above_le, filled_block, filled_cell, peak_cell, peak_more}
use Rattle.ground.proofs.peak.+fill.Goals as goal
use Rattle.ground.proofs.peak.+fill.Goals.{then-depth-exponent, else-depth-exponent}

pub bounds-peaks-place : goal.bounds-peaks-place
bounds-peaks-place t c = let l : suc c.args.depth ≤ suc c.args.coefficients.now.shape.exponent = omega arith in omega (arith, c.requires.room, c.place.ensures.within, above_le _ _ l)

pub offset_bounds-peaks-place : goal.offset_bounds-peaks-place
offset_bounds-peaks-place t c = let l : suc c.args.depth ≤ suc c.args.coefficients.now.shape.exponent = omega arith in omega (arith, c.requires.room, c.place.ensures.within, above_le _ _ l)

pub returns : goal.returns
returns t c =
    let k = c.args.coefficients.now in
    let m = k.shape.exponent in
    let g = coefficients_of k in
    let s = m - c.args.depth in
    let i = c.args.row in
    let j = c.args.column in
    let tree = depth_tree m c.args.depth i j c.requires.deep c.requires.row_in c.requires.column_in in
    let at = c.place.ensures.value ∙ depth_place m c.args.depth i j c.requires.deep in
    let x : c.exponent.result ≡ m = c.exponent.ensures ∙ ap (λ (p : Shape). p.exponent) c.shape.ensures in
    elim c.if-depth-exponent.branch [
      | then-depth-exponent w ↦
          let z : s ≡ 0 = omega (arith, w.if-depth-exponent.true) in
          let v = w.peak-is ∙ w.magnitude-peak.ensures in
          record {
            value = v ∙ sym (peak_cell g s i j z);
            filled = rw (w.peaks-is, at) (filled_cell m g s i j c.args.peaks.now c.if-depth-exponent.peak tree c.requires.room z v);
          }
      | else-depth-exponent w ↦
          let e : s ≡ (s - 1) + 1 = omega (arith, w.if-depth-exponent.false, c.requires.deep) in
          let a = renamed m g _ _ _ (s - 1) (2 * i) (2 * j) _ _ _ (omega arith) refl refl w.fill-a.ensures.value w.fill-a.ensures.filled in
          let b = renamed m g _ _ _ (s - 1) (2 * i) (2 * j + 1) _ _ _ (omega arith) refl refl w.fill-b.ensures.value w.fill-b.ensures.filled in
          let d = renamed m g _ _ _ (s - 1) (2 * i + 1) (2 * j) _ _ _ (omega arith) refl refl w.fill-c.ensures.value w.fill-c.ensures.filled in
          let f = renamed m g _ _ _ (s - 1) (2 * i + 1) (2 * j + 1) _ _ _ (omega arith) refl refl w.fill-d.ensures.value w.fill-d.ensures.filled in
          let is : c.if-depth-exponent.peak ≡ peak_of g s i j =
          w.peak-is ∙ w.max-peak.ensures ∙ ap (λ n. max n w.max-else-depth-exponent.result) w.max.ensures ∙ ap (max (max w.fill-a.result w.fill-b.result)) w.max-else-depth-exponent.ensures
          ∙ peak_more g s (s - 1) i j _ _ _ _ e a.value b.value d.value f.value in
          record {
            value = is;
            filled = rw (w.peaks-is, at) (filled_block m g s (s - 1) i j c.args.peaks.now w.fill-a.new.peaks w.fill-b.new.peaks w.fill-c.new.peaks w.fill-d.new.peaks c.if-depth-exponent.peak tree
                (omega (arith, c.requires.room)) e is a.filled b.filled d.filled f.filled);
          }
    ]
