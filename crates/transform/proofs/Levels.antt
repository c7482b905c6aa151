use Rattle.std.proofs.Common.{◌≡◌, ℕ, zero, suc, ◌+◌, ◌*◌, ◌/◌, ◌^◌, ◌<◌, ◌≤◌, Bool, true, false, cond, ltb, ◌⊎◌, sym, refl, ap, ◌∙◌, ap₂, inl, inr, arith}
use mathlib.Core.Path.{fun_ext}
use Rattle.std.proofs.lemmas.Bool.{lt-ltb, le-ltb, cases_lt, cond-true, cond-false}
use Rattle.transform.specs.Transform.{Line, Grid, On, pair_of, part_of, halved, joined, in_rows, in_columns, level, unlevel, levels, unlevels, transform, undone, ComesBack}
use Rattle.transform.proofs.Halving.{halved_in, halved_rest, line_back, pair_below}

-- a line that is halved and joined, or neither
line_back_if : (b : Bool) (h : ℕ) (f : Line) (j : ℕ) → cond b (joined h (λ k. cond b (halved h f k) (f k)) j) (cond b (halved h f j) (f j)) ≡ f j
line_back_if true h f j = line_back h f j
line_back_if false h f j = refl

pub rows_back : (h : ℕ) (g : Grid) → in_rows (2 * h) (joined h) (in_rows (2 * h) (halved h) g) ≡ g
rows_back h g = fun_ext (λ i. fun_ext (λ j. line_back_if (ltb i (2 * h)) h (g i) j))

pub columns_back : (h : ℕ) (g : Grid) → in_columns (2 * h) (joined h) (in_columns (2 * h) (halved h) g) ≡ g
columns_back h g = fun_ext (λ i. fun_ext (λ j. line_back_if (ltb j (2 * h)) h (λ r. g r j) i))

pub level_back : (h : ℕ) (g : Grid) → unlevel h (level h g) ≡ g
level_back h g = ap (in_rows (2 * h) (joined h)) (columns_back h (in_rows (2 * h) (halved h) g)) ∙ rows_back h g

pub levels_back : (k w : ℕ) (g : Grid) → unlevels k w (levels k w g) ≡ g
levels_back zero w g = refl
levels_back (suc k) w g = ap (unlevel (w / 2)) (levels_back k (w / 2) (level (w / 2) g)) ∙ level_back (w / 2) g

pub comes_back : ComesBack
unfolding transform undone
comes_back m k g i j _ _ = ap (λ u. u i j) (levels_back k (2 ^ m) g)

-- a cell of a level, in the square and outside of it
row_in : (h : ℕ) (g : Grid) (i j : ℕ) → i < 2 * h → j < 2 * h → in_rows (2 * h) (halved h) g i j ≡ part_of h j (g i (2 * pair_of h j)) (g i (2 * pair_of h j + 1))
row_in h g i j p q = cond-true _ _ _ (lt-ltb i (2 * h) p) ∙ halved_in h (g i) j q

pub level_in : (h : ℕ) (g : Grid) (i j : ℕ) → i < 2 * h → j < 2 * h →
    level h g i j ≡ part_of h i (part_of h j (g (2 * pair_of h i) (2 * pair_of h j)) (g (2 * pair_of h i) (2 * pair_of h j + 1))) (part_of h j (g (2 * pair_of h i + 1) (2 * pair_of h j)) (g (2 * pair_of h i + 1) (2 * pair_of h j + 1)))
level_in h g i j p q =
    let b = pair_below h i p in
    cond-true _ _ _ (lt-ltb j (2 * h) q) ∙ halved_in h (λ r. in_rows (2 * h) (halved h) g r j) i p ∙ ap₂ (part_of h i) (row_in h g (2 * pair_of h i) j (omega arith) q) (row_in h g (2 * pair_of h i + 1) j (omega arith) q)

row_out : (h : ℕ) (g : Grid) (i j : ℕ) → (2 * h ≤ i) ⊎ (2 * h ≤ j) → in_rows (2 * h) (halved h) g i j ≡ g i j
row_out h g i j (inl p) = cond-false _ _ _ (le-ltb i (2 * h) p)
row_out h g i j (inr q) = elim (cases_lt i (2 * h)) [ inl p ↦ cond-true _ _ _ (lt-ltb i (2 * h) p) ∙ halved_rest h (g i) j q | inr p ↦ cond-false _ _ _ (le-ltb i (2 * h) p) ]

pub level_out : (h : ℕ) (g : Grid) (i j : ℕ) → (2 * h ≤ i) ⊎ (2 * h ≤ j) → level h g i j ≡ g i j
level_out h g i j (inr q) = cond-false _ _ _ (le-ltb j (2 * h) q) ∙ row_out h g i j (inr q)
level_out h g i j (inl p) = elim (cases_lt j (2 * h)) [ inl q ↦ cond-true _ _ _ (lt-ltb j (2 * h) q) ∙ halved_rest h (λ r. in_rows (2 * h) (halved h) g r j) i p ∙ row_out h g i j (inl p) | inr q ↦ cond-false _ _ _ (le-ltb j (2 * h) q) ∙ row_out h g i j (inl p) ]

-- grids that agree on a square are transformed alike there
pub level_local : (h s : ℕ) (g g' : Grid) → 2 * h ≤ s → On s (λ i j. g i j ≡ g' i j) → On s (λ i j. level h g i j ≡ level h g' i j)
level_local h s g g' le same i j p q = elim (cases_lt i (2 * h)) [
  | inr x ↦ level_out h g i j (inl x) ∙ same i j p q ∙ sym (level_out h g' i j (inl x))
  | inl x ↦ elim (cases_lt j (2 * h)) [
    | inr y ↦ level_out h g i j (inr y) ∙ same i j p q ∙ sym (level_out h g' i j (inr y))
    | inl y ↦
        let b = pair_below h i x in
        let d = pair_below h j y in
        level_in h g i j x y ∙ ap₂ (part_of h i) (ap₂ (part_of h j) (same _ _ (omega arith) (omega arith)) (same _ _ (omega arith) (omega arith))) (ap₂ (part_of h j) (same _ _ (omega arith) (omega arith)) (same _ _ (omega arith) (omega arith))) ∙ sym (level_in h g' i j x y)
  ]
]

pub levels_local : (k w s : ℕ) (g g' : Grid) → w ≤ s → On s (λ i j. g i j ≡ g' i j) → On s (λ i j. levels k w g i j ≡ levels k w g' i j)
levels_local zero w s g g' le same = same
levels_local (suc k) w s g g' le same = levels_local k (w / 2) s (level (w / 2) g) (level (w / 2) g') (omega arith) (level_local (w / 2) s g g' (omega arith) same)

pub transform_local : (m k : ℕ) (g g' : Grid) → On (2 ^ m) (λ i j. g i j ≡ g' i j) → On (2 ^ m) (λ i j. transform m k g i j ≡ transform m k g' i j)
unfolding transform
transform_local m k g g' same = levels_local k (2 ^ m) (2 ^ m) g g' (omega arith) same
