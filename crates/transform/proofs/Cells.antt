use Rattle.std.proofs.Common.{◌≡◌, ℕ, zero, suc, ◌+◌, ◌-◌, ◌*◌, ◌/◌, ◌<◌, ◌≤◌, ◌⊎◌, ℤ, sym, refl, ap, ◌∙◌, ap₂, inl, inr, arith}
use Rattle.transform.specs.Transform.{Grid, one_of, unlevel, unlevels}
use Rattle.transform.proofs.Errors.{unlevel_in, unlevel_out}

-- what no undone level touches
pub unlevels_out : (k w : ℕ) (g : Grid) (i j : ℕ) → (w ≤ i) ⊎ (w ≤ j) → unlevels k w g i j ≡ g i j
unlevels_out zero w g i j o = refl
unlevels_out (suc k) w g i j o = unlevel_out (w / 2) (unlevels k (w / 2) g) i j (two o) ∙ unlevels_out k (w / 2) g i j (one o)
  where
    two : (w ≤ i) ⊎ (w ≤ j) → (2 * (w / 2) ≤ i) ⊎ (2 * (w / 2) ≤ j)
    two (inl p) = inl (omega arith)
    two (inr p) = inr (omega arith)

    one : (w ≤ i) ⊎ (w ≤ j) → (w / 2 ≤ i) ⊎ (w / 2 ≤ j)
    one (inl p) = inl (omega arith)
    one (inr p) = inr (omega arith)

-- one cell of k undone levels, from the low above it and three coefficients: h is half the side w
pub cell : (k w h : ℕ) (g : Grid) (i j : ℕ) (l a b c r : ℤ) → 0 < k → w ≡ 2 * h → i < w → j < w → l ≡ unlevels (k - 1) h g (i / 2) (j / 2) → a ≡ g (h + i / 2) (j / 2) → b ≡ g (i / 2) (h + j / 2) → c ≡ g (h + i / 2) (h + j / 2) →
    r ≡ one_of j (one_of i l a) (one_of i b c) → r ≡ unlevels k w g i j
cell zero w h g i j l a b c r z e p q el ea eb ec er = absurd (omega arith)
cell (suc k) w h g i j l a b c r z e p q el ea eb ec er =
    let u : Grid = unlevels k h g in
    let half : w / 2 ≡ h = omega arith in
    let il : i < 2 * h = omega arith in
    let jl : j < 2 * h = omega arith in
    let k1 : suc k - 1 ≡ k = omega arith in
    let il2 : l ≡ u (i / 2) (j / 2) = rw k1 at el in
    let a2 : a ≡ u (h + i / 2) (j / 2) = ea ∙ sym (unlevels_out k h g _ _ (inl (omega arith))) in
    let b2 : b ≡ u (i / 2) (h + j / 2) = eb ∙ sym (unlevels_out k h g _ _ (inr (omega arith))) in
    let c2 : c ≡ u (h + i / 2) (h + j / 2) = ec ∙ sym (unlevels_out k h g _ _ (inl (omega arith))) in
    er ∙ ap₂ (one_of j) (ap₂ (one_of i) il2 a2) (ap₂ (one_of i) b2 c2) ∙ sym (unlevel_in h u i j il jl) ∙ ap (λ x. unlevel x (unlevels k x g) i j) (sym half)
