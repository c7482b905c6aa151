use Rattle.std.proofs.Common.{◌≡◌, ℕ, zero, suc, ◌*◌, ◌/◌, ◌^◌, ◌<◌, ◌≤◌, Bool, true, false, cond, ltb, List, [], ◌∷◌, replicate, ℤ, pos, nat_abs, Some, None, Option, refl, ap, ◌∙◌, ap₂, inl, inr, arith, pow_mono}
use mathlib.Core.Path.{fun_ext}
use Rattle.std.proofs.lemmas.Bool.{cases_lt}
use Rattle.frame.specs.Frames.{entered, heights_of}
use Rattle.speck.specs.Grid.{significant}
use Rattle.speck.specs.Machine.{enter_plane}
use Rattle.speck.specs.Survey.{arranged, ask_part, insert}
use Rattle.transform.specs.Transform.{Grid, On, halved, level, levels, part_of, transform}
use Rattle.transform.specs.Planes.{PlaneCount}
use Rattle.transform.specs.Errors.{bound_of, drift_of}
use Rattle.transform.proofs.Levels.{level_in, level_out, transform_local}
use Rattle.examples.specs.Worked.{WorkedExamples, coefficients2, map2, zeros}

-- the four cells of a square of side 2
on_two : (P : ℕ → ℕ → Type 0) → P 0 0 → P 0 1 → P 1 0 → P 1 1 → On 2 P
on_two P a b c d zero zero p q = a
on_two P a b c d zero (suc zero) p q = b
on_two P a b c d (suc zero) zero p q = c
on_two P a b c d (suc zero) (suc zero) p q = d
on_two P a b c d (suc (suc i)) j p q = absurd (omega arith)
on_two P a b c d zero (suc (suc j)) p q = absurd (omega arith)
on_two P a b c d (suc zero) (suc (suc j)) p q = absurd (omega arith)

transformed : On 2 (λ i j. transform 1 1 map2 i j ≡ coefficients2 i j)
unfolding transform halved part_of
transformed = on_two _ refl refl refl refl

planes : PlaneCount 1 (transform 1 1 map2) 3
planes = record {
  enough = λ i j p q. rw (transformed i j p q) (on_two (λ i j. nat_abs (coefficients2 i j) < 8) (omega arith) (omega arith) (omega arith) (omega arith) i j p q);
  least = λ n h. elim (cases_lt n 3) [
    | inr l ↦ l
    | inl l ↦ absurd (let s : nat_abs (transform 1 1 map2 0 0) < 2 ^ n = h 0 0 (omega arith) (omega arith) in let b : 2 ^ n ≤ 2 ^ 2 = pow_mono {i = n} {j = 2} (omega arith) in let e = ap nat_abs (transformed 0 0 (omega arith) (omega arith)) in omega arith)
  ];
}

-- a map of zeros stays one
part_zeros : (h j : ℕ) → part_of h j (pos 0) (pos 0) ≡ pos 0
unfolding part_of
part_zeros h j = either (ltb j h)
  where
    either : (b : Bool) → cond b (pos 0) (pos 0) ≡ pos 0
    either true = refl
    either false = refl

level_zeros : (h : ℕ) → level h zeros ≡ zeros
level_zeros h = fun_ext (λ i. fun_ext (λ j. elim (cases_lt i (2 * h)) [
  | inr p ↦ level_out h zeros i j (inl p)
  | inl p ↦ elim (cases_lt j (2 * h)) [
    | inr q ↦ level_out h zeros i j (inr q)
    | inl q ↦ level_in h zeros i j p q ∙ ap₂ (part_of h i) (part_zeros h j) (part_zeros h j) ∙ part_zeros h i
  ]
]))

levels_zeros : (k w : ℕ) → levels k w zeros ≡ zeros
levels_zeros zero w = refl
levels_zeros (suc k) w = ap (levels k (w / 2)) (level_zeros (w / 2)) ∙ levels_zeros k (w / 2)

zeros_planes : (m k : ℕ) → PlaneCount m (transform m k zeros) 0
unfolding transform
zeros_planes m k = record { enough = λ i j p q. rw (ap (λ u. u i j) (levels_zeros k (2 ^ m))) (omega arith); least = λ n h. omega arith }

pub worked : WorkedExamples
unfolding bound_of drift_of arranged insert ask_part significant enter_plane
worked = record {
  halving_low = refl;
  halving_difference = refl;
  transformed = transformed;
  planes = planes;
  zeros_planes = zeros_planes;
  bound_open = refl;
  bound_one_closed = refl;
  bound_two_closed = refl;
  bound_closed = refl;
  survey_of_map = refl;
  survey_of_zeros = λ x k. refl;
  first_no_is_taken = refl;
  second_no_contradicts = refl;
  fourth_no_is_taken = refl;
  fifth_no_contradicts = refl;
  survey_of_grid8 = refl;
}

-- the four cells as they are told
abbrev cells2 : List (Option ℤ)
cells2 = Some (pos 10) ∷ Some (pos 7) ∷ Some (pos 4) ∷ Some (pos 5) ∷ []

pub told : (m m₁ m₂ m₃ m₄ : ℕ) (x x₁ x₂ x₃ x₄ : List (Option ℤ)) → m ≡ 1 → m₁ ≡ 1 → m₂ ≡ 1 → m₃ ≡ 1 → m₄ ≡ 1 → x ≡ replicate (4 ^ m) None → x₁ ≡ entered m₁ x 0 0 (pos 10) → x₂ ≡ entered m₂ x₁ 0 1 (pos 7) → x₃ ≡ entered m₃ x₂ 1 0 (pos 4) → x₄ ≡ entered m₄ x₃ 1 1 (pos 5) → x₄ ≡ cells2
told m m₁ m₂ m₃ m₄ x x₁ x₂ x₃ x₄ e e₁ e₂ e₃ e₄ f f₁ f₂ f₃ f₄ =
    let y : x ≡ replicate 4 None = rw e at f in
    let y₁ : x₁ ≡ Some (pos 10) ∷ None ∷ None ∷ None ∷ [] = rw (e₁, y) at f₁ in
    let y₂ : x₂ ≡ Some (pos 10) ∷ Some (pos 7) ∷ None ∷ None ∷ [] = rw (e₂, y₁) at f₂ in
    let y₃ : x₃ ≡ Some (pos 10) ∷ Some (pos 7) ∷ Some (pos 4) ∷ None ∷ [] = rw (e₃, y₂) at f₃ in
    rw (e₄, y₃) at f₄

-- so their coefficients
pub made2 : (m k : ℕ) (cells : List (Option ℤ)) (g : Grid) → m ≡ 1 → k ≡ 1 → cells ≡ cells2 → On (2 ^ m) (λ i j. g i j ≡ transform m k (heights_of m cells) i j) → On 2 (λ i j. g i j ≡ coefficients2 i j)
made2 m k cells g e f h made i j p q =
    let t : On 2 (λ i j. g i j ≡ transform 1 1 (heights_of 1 cells2) i j) = rw (e, f, h) at made in
    let same : On 2 (λ i j. heights_of 1 cells2 i j ≡ map2 i j) = on_two _ refl refl refl refl in
    t i j p q ∙ transform_local 1 1 (heights_of 1 cells2) map2 same i j p q ∙ transformed i j p q
