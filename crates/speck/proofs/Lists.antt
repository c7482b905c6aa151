-- Sums over lists of parts, and that arranging them only moves them.
use Rattle.std.proofs.Common.{◌≡◌, ℕ, ◌+◌, true, false, cond, List, [], ◌∷◌, ◌++◌, sym, refl, ◌∙◌, zero-add, arith}
use Rattle.std.specs.List.{AllByRecursion}
use Rattle.std.specs.List.Sorted.{IsPermutation}
use Rattle.std.proofs.lemmas.List.Elements.{All-from_recursion, recursion_from_All}
use Rattle.std.proofs.lemmas.List.Recursion.{is_sum_by}
use Rattle.std.proofs.lemmas.List.Sorted.{All-permutation, IsPermutation-refl, IsPermutation-cons, IsPermutation-middle, IsPermutation-trans, sum_by-IsPermutation}
use Rattle.speck.specs.declared.Part.{Part}
use Rattle.speck.specs.Grid.{inside, coverage}
use Rattle.speck.specs.Survey.{arranged, insert, before}

insert_moves : (p : Part) (qs : List Part) → IsPermutation (p ∷ qs) (insert p qs)
unfolding insert
insert_moves p [] = IsPermutation-refl (p ∷ [])
insert_moves p (q ∷ qs) =
    let h = IsPermutation-trans (p ∷ q ∷ qs) (q ∷ p ∷ qs) (q ∷ insert p qs) (IsPermutation-middle (p ∷ []) q qs) (IsPermutation-cons q (p ∷ qs) (insert p qs) (insert_moves p qs)) in
    elim (before p q) as (λ b. IsPermutation (p ∷ q ∷ qs) (cond b (p ∷ q ∷ qs) (q ∷ insert p qs))) [ true ↦ IsPermutation-refl (p ∷ q ∷ qs) | false ↦ h ]

pub arranged_moves : (ps : List Part) → IsPermutation ps (arranged ps)
unfolding arranged
arranged_moves [] = IsPermutation-refl []
arranged_moves (p ∷ ps) = IsPermutation-trans (p ∷ ps) (p ∷ arranged ps) (insert p (arranged ps)) (IsPermutation-cons p ps (arranged ps) (arranged_moves ps)) (insert_moves p (arranged ps))

pub coverage_append : (xs ys : List Part) (i j : ℕ) → coverage (xs ++ ys) i j ≡ coverage xs i j + coverage ys i j
coverage_append [] ys i j = sym (zero-add (coverage ys i j))
coverage_append (x ∷ xs) ys i j = omega (arith, coverage_append xs ys i j)

pub coverage_arrange : (ps : List Part) (i j : ℕ) → coverage (arranged ps) i j ≡ coverage ps i j
coverage_arrange ps i j =
    let s = is_sum_by (λ qs. coverage qs i j) (λ p. inside p i j) refl (λ _ _. refl) in
    s (arranged ps) ∙ sum_by-IsPermutation (λ p. inside p i j) ps (arranged ps) (arranged_moves ps) ∙ sym (s ps)

-- what holds of each
pub each_append : {X : Type 0} (P : X → Type 0) (xs ys : List X) → AllByRecursion P xs → AllByRecursion P ys → AllByRecursion P (xs ++ ys)
each_append P [] ys h k = k
each_append P (x ∷ xs) ys h k = (h.0, each_append P xs ys h.1 k)

pub each_arranged : (P : Part → Type 0) (ps : List Part) → AllByRecursion P ps → AllByRecursion P (arranged ps)
each_arranged P ps h = recursion_from_All P (arranged ps) (All-permutation P ps (arranged ps) (arranged_moves ps) (All-from_recursion P ps h))
