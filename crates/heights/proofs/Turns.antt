use Rattle.std.proofs.Common.{◌≡◌, ℕ, zero, suc, ◌+◌, ◌/◌, ◌^◌, List, ℤ, add-one, sym, refl, ap, ◌∙◌, arith}
use Rattle.std.proofs.lemmas.Nat.{shr_le, shr-shr}
use Rattle.transform.specs.Transform.{Grid, On, grid_of, level, levels, transform}
use Rattle.transform.proofs.Levels.{level_local}

-- the last of k + 1 levels
last_level : (k w : ℕ) (g : Grid) → level (w / 2 ^ suc k) (levels k w g) ≡ levels (suc k) w g
last_level zero w g = refl
last_level (suc k) w g =
    let n : suc (suc k) ≡ 1 + suc k = omega arith in
    ap (λ h. level h (levels (suc k) w g)) (ap (λ x. w / 2 ^ x) n ∙ sym (shr-shr w 1 (suc k))) ∙ last_level k (w / 2) (level (w / 2) g)

-- one more level of a list that t levels of g have made
pub level_more : (m t w : ℕ) (g : Grid) (xs ys : List ℤ) → w ≡ 2 ^ m / 2 ^ t → On (2 ^ m) (λ i j. grid_of m xs i j ≡ transform m t g i j) →
    On (2 ^ m) (λ i j. grid_of m ys i j ≡ level (w / 2) (grid_of m xs) i j) → On (2 ^ m) (λ i j. grid_of m ys i j ≡ transform m (t + 1) g i j)
unfolding transform
level_more m t w g xs ys side so_far same i j p q =
    let le = shr_le (2 ^ m) t in
    let h : w / 2 ≡ 2 ^ m / 2 ^ (t + 1) = ap (λ x. x / 2) side ∙ shr-shr (2 ^ m) t 1 in
    let e : level (2 ^ m / 2 ^ (t + 1)) (levels t (2 ^ m) g) ≡ levels (t + 1) (2 ^ m) g = rw add-one (last_level t (2 ^ m) g) in
    same i j p q ∙ level_local (w / 2) (2 ^ m) _ _ (omega arith) so_far i j p q ∙ ap (λ x. level x (levels t (2 ^ m) g) i j) h ∙ ap (λ u. u i j) e
