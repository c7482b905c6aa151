-- The two ways to say the order of waiting parts are one.
use Rattle.std.proofs.Common.{◌≡◌, ℕ, zero, suc, ◌+◌, ◌<◌, ◌≤◌, Bool, true, false, cond, eqb, ◌⊎◌, List, [], ◌∷◌, ◌++◌, refl, ap, ◌∙◌, inl, inr, append_assoc, arith}
use Rattle.std.proofs.lemmas.Bool.{eqb-true, eq-eqb, ne_eqb, le-leb, lt-leb, cases_lt}
use Rattle.speck.specs.declared.Part.{Part}
use Rattle.speck.specs.declared.Part.TheVariants.{Block, Rest}
use Rattle.speck.specs.Survey.{before, insert, arranged, of_side, rests, tiers, Arranges}

-- p stands before each, or behind each
abbrev Fores : Part → List Part → Type 0
Fores p [] = Unit {0}
Fores p (q ∷ qs) = (before p q ≡ true) × Fores p qs

abbrev Afters : Part → List Part → Type 0
Afters p [] = Unit {0}
Afters p (q ∷ qs) = (before p q ≡ false) × Afters p qs

fores_append : (p : Part) (xs ys : List Part) → Fores p xs → Fores p ys → Fores p (xs ++ ys)
fores_append p [] ys a b = b
fores_append p (x ∷ xs) ys a b = (a.0, fores_append p xs ys a.1 b)

afters_append : (p : Part) (xs ys : List Part) → Afters p xs → Afters p ys → Afters p (xs ++ ys)
afters_append p [] ys a b = b
afters_append p (x ∷ xs) ys a b = (a.0, afters_append p xs ys a.1 b)

place_front : (p : Part) (qs : List Part) → Fores p qs → insert p qs ≡ p ∷ qs
unfolding insert
place_front p [] f = refl
place_front p (q ∷ qs) f = rw f.0

place_past : (p : Part) (xs ys : List Part) → Afters p xs → insert p (xs ++ ys) ≡ xs ++ insert p ys
unfolding insert
place_past p [] ys a = refl
place_past p (x ∷ xs) ys a = rw a.0 (ap (λ l. x ∷ l) (place_past p xs ys a.1))

-- the blocks of one side
side_fores : (s r c t : ℕ) → s ≤ t → (l : List Part) → Fores (Block s r c) (of_side t l)
side_fores s r c t h [] = tt
side_fores s r c t h (Block u v w ∷ l) = by (eqb u t) refl (side_fores s r c t h l)
  where
    by : (b : Bool) → eqb u t ≡ b → Fores (Block s r c) (of_side t l) → Fores (Block s r c) (cond (eqb u t) (Block u v w ∷ of_side t l) (of_side t l))
    by true e ih = rw e (le-leb s u (omega (arith, eqb-true u t e)), ih)
    by false e ih = rw e ih
side_fores s r c t h (Rest d x ∷ l) = side_fores s r c t h l

side_afters : (s r c t : ℕ) → t < s → (l : List Part) → Afters (Block s r c) (of_side t l)
side_afters s r c t h [] = tt
side_afters s r c t h (Block u v w ∷ l) = by (eqb u t) refl (side_afters s r c t h l)
  where
    by : (b : Bool) → eqb u t ≡ b → Afters (Block s r c) (of_side t l) → Afters (Block s r c) (cond (eqb u t) (Block u v w ∷ of_side t l) (of_side t l))
    by true e ih = rw e (lt-leb s u (omega (arith, eqb-true u t e)), ih)
    by false e ih = rw e ih
side_afters s r c t h (Rest d x ∷ l) = side_afters s r c t h l

rest_afters : (d x t : ℕ) (l : List Part) → Afters (Rest d x) (of_side t l)
rest_afters d x t [] = tt
rest_afters d x t (Block u v w ∷ l) = elim (eqb u t) as (λ b. Afters (Rest d x) (cond b (Block u v w ∷ of_side t l) (of_side t l))) [ true ↦ (refl, rest_afters d x t l) | false ↦ rest_afters d x t l ]
rest_afters d x t (Rest _ _ ∷ l) = rest_afters d x t l

rests_fores : (s r c : ℕ) (l : List Part) → Fores (Block s r c) (rests l)
rests_fores s r c [] = tt
rests_fores s r c (Block u v w ∷ l) = rests_fores s r c l
rests_fores s r c (Rest d x ∷ l) = (refl, rests_fores s r c l)

rests_front : (d x : ℕ) (l : List Part) → Fores (Rest d x) (rests l)
rests_front d x [] = tt
rests_front d x (Block u v w ∷ l) = rests_front d x l
rests_front d x (Rest _ _ ∷ l) = (refl, rests_front d x l)

tiers_fores : (s r c a k : ℕ) → s ≤ a → (l : List Part) → Fores (Block s r c) (tiers a k l)
tiers_fores s r c a zero h l = tt
tiers_fores s r c a (suc k) h l = fores_append (Block s r c) (of_side a l) (tiers (suc a) k l) (side_fores s r c a h l) (tiers_fores s r c (suc a) k (omega arith) l)

tiers_afters : (d x a k : ℕ) (l : List Part) → Afters (Rest d x) (tiers a k l)
tiers_afters d x a zero l = tt
tiers_afters d x a (suc k) l = afters_append (Rest d x) (of_side a l) (tiers (suc a) k l) (rest_afters d x a l) (tiers_afters d x (suc a) k l)

-- a Block is in no tier above its own
tiers_above : (s r c a k : ℕ) → s < a → (l : List Part) → tiers a k (Block s r c ∷ l) ≡ tiers a k l
tiers_above s r c a zero h l = refl
tiers_above s r c a (suc k) h l = rw (ne_eqb s a (λ e. omega arith)) (ap (λ t. of_side a l ++ t) (tiers_above s r c (suc a) k (omega arith) l))

-- a Rest is in none
tiers_rest : (d x a k : ℕ) (l : List Part) → tiers a k (Rest d x ∷ l) ≡ tiers a k l
tiers_rest d x a zero l = refl
tiers_rest d x a (suc k) l = ap (λ t. of_side a l ++ t) (tiers_rest d x (suc a) k l)

put_in : (s r c a k : ℕ) → a ≤ s → s < a + k → (l R : List Part) → Fores (Block s r c) R → insert (Block s r c) (tiers a k l ++ R) ≡ tiers a k (Block s r c ∷ l) ++ R
put_in s r c a zero h m l R f = absurd (omega arith)
put_in s r c a (suc k) h m l R f = by (cases_lt a s) (λ x. put_in s r c (suc a) k (omega arith) (omega arith) l R f)
  where
    by : (a < s) ⊎ (s ≤ a) → (a < s → insert (Block s r c) (tiers (suc a) k l ++ R) ≡ tiers (suc a) k (Block s r c ∷ l) ++ R) → insert (Block s r c) ((of_side a l ++ tiers (suc a) k l) ++ R) ≡ (cond (eqb s a) (Block s r c ∷ of_side a l) (of_side a l) ++ tiers (suc a) k (Block s r c ∷ l)) ++ R
    by (inl x) ih = rw (ne_eqb s a (λ e. omega arith), append_assoc (of_side a l) (tiers (suc a) k l) R, append_assoc (of_side a l) (tiers (suc a) k (Block s r c ∷ l)) R) (place_past (Block s r c) (of_side a l) (tiers (suc a) k l ++ R) (side_afters s r c a x l) ∙ ap (λ t. of_side a l ++ t) (ih x))
    by (inr x) ih = rw (eq-eqb s a (omega arith), tiers_above s r c (suc a) k (omega arith) l) (place_front (Block s r c) ((of_side a l ++ tiers (suc a) k l) ++ R) (fores_append (Block s r c) (of_side a l ++ tiers (suc a) k l) R (fores_append (Block s r c) (of_side a l) (tiers (suc a) k l) (side_fores s r c a (omega arith) l) (tiers_fores s r c (suc a) k (omega arith) l)) f))

pub arranges : Arranges
unfolding arranged
arranges m [] b = none m 0
  where
    none : (k a : ℕ) → [] ≡ tiers a k [] ++ []
    none zero a = refl
    none (suc k) a = none k (suc a)
arranges m (Block s r c ∷ l) b = rw (arranges m l b.1) (put_in s r c 0 m (omega arith) (omega (arith, b.0)) l (rests l) (rests_fores s r c l))
arranges m (Rest d x ∷ l) b = rw (arranges m l b) (place_past (Rest d x) (tiers 0 m l) (rests l) (tiers_afters d x 0 m l) ∙ rw (tiers_rest d x 0 m l) (ap (λ t. tiers 0 m l ++ t) (place_front (Rest d x) (rests l) (rests_front d x l))))
