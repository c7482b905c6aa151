use Rattle.std.proofs.Common.{◌≡◌, ℕ, zero, suc, ◌+◌, ◌-◌, ◌*◌, ◌/◌, ◌%◌, ◌^◌, ◌<◌, ◌≤◌, Bool, true, false, cond, ◌&&◌, eqb, ltb, ◌⊎◌, ℤ, pos, ◌+ℤ◌, ◌-ℤ◌, nat_abs, Some, None, sym, refl, ap, ◌∙◌, subst, ap₂, inl, inr, mul-le-mul_left, arith, pow_mono}
use mathlib.Core.Path.{fun_ext}
use borrow.Author.Differences.{ints}
use lib.Signed.{shr_z}
use Rattle.std.proofs.lemmas.Bool.{lt-ltb, le-ltb, cases_lt, cases_eq, cond-true, cond-false, cases_Bool}
use Rattle.std.proofs.lemmas.Nat.{one_shl}
use Rattle.std.proofs.lemmas.Bool.Decides.{Decides-below_and, Decides-eqb}
use Rattle.transform.specs.Transform.{Grid, On, first_of, second_of, one_of, joined, in_columns, unlevel, unlevels, transform, undone}
use Rattle.transform.specs.Errors.{Near, ceil_half, growth, drift_of, bound_of, for_planes, DriftIsGrowth, MapsNear, HeightsNear, Admitted, ReadingsSmall}
use Rattle.transform.proofs.Halving.{half_is, joined_in, joined_rest}
use Rattle.transform.proofs.Levels.{comes_back}

-- the table is the growth, by one computed test
agrees : ℕ → Bool
agrees q = eqb (drift_of q) (growth (2 ^ q - 1))

agrees_below : ℕ → Bool
agrees_below zero = true
agrees_below (suc n) = agrees n && agrees_below n

pub drift_is_growth : DriftIsGrowth
unfolding agrees agrees_below drift_of
drift_is_growth = (Decides-below_and agrees (λ q. drift_of q ≡ growth (2 ^ q - 1)) agrees_below (λ q. Decides-eqb (drift_of q) (growth (2 ^ q - 1))) refl (λ _. refl) 16).0 refl

near_by : (a a' b b' : ℤ) (n : ℕ) → a ≡ b → a' ≡ b' → Near b b' n → Near a a' n
near_by a a' b b' n p p' q = rw (p, p') q

-- the halves h of d + 1 and h' of d' + 1
halves_near : (d d' h h' : ℤ) (E : ℕ) → h ≡ shr_z (d +ℤ pos 1) 2 → h' ≡ shr_z (d' +ℤ pos 1) 2 → Near d d' E → Near h h' (ceil_half E)
halves_near d d' h h' E p p' q = omega (arith, ints, half_is (d +ℤ pos 1), half_is (d' +ℤ pos 1))

rests_near : (d d' h h' : ℤ) (E : ℕ) → h ≡ shr_z (d +ℤ pos 1) 2 → h' ≡ shr_z (d' +ℤ pos 1) 2 → Near d d' E → Near (h -ℤ d) (h' -ℤ d') (ceil_half E)
rests_near d d' h h' E p p' q = omega (arith, ints, half_is (d +ℤ pos 1), half_is (d' +ℤ pos 1))

sums_near : (l l' h h' : ℤ) (e k : ℕ) → Near l l' e → Near h h' k → Near (l +ℤ h) (l' +ℤ h') (e + k)
sums_near l l' h h' e k p q = omega (arith, ints)

less_near : (l l' h h' d d' : ℤ) (e k : ℕ) → Near l l' e → Near (h -ℤ d) (h' -ℤ d') k → Near ((l +ℤ h) -ℤ d) ((l' +ℤ h') -ℤ d') (e + k)
less_near l l' h h' d d' e k p q = omega (arith, ints)

pick_near : (b : Bool) (l l' d d' : ℤ) (e E : ℕ) → Near l l' e → Near d d' E → Near (cond b (first_of l d) (second_of l d)) (cond b (first_of l' d') (second_of l' d')) (e + ceil_half E)
pick_near true l l' d d' e E p q = sums_near l l' _ _ e _ p (halves_near d d' _ _ E refl refl q)
pick_near false l l' d d' e E p q = less_near l l' _ _ d d' e _ p (rests_near d d' _ _ E refl refl q)

pub one_near : (j : ℕ) (l l' d d' : ℤ) (e E : ℕ) → Near l l' e → Near d d' E → Near (one_of j l d) (one_of j l' d') (e + ceil_half E)
unfolding one_of
one_near j l l' d d' e E p q = pick_near (eqb (j % 2) 0) l l' d d' e E p q

-- a cell of an undone level, in the square and outside of it
column_in : (h : ℕ) (g : Grid) (i j : ℕ) → i < 2 * h → j < 2 * h → in_columns (2 * h) (joined h) g i j ≡ one_of i (g (i / 2) j) (g (h + i / 2) j)
column_in h g i j p q = cond-true _ _ _ (lt-ltb j (2 * h) q) ∙ joined_in h (λ r. g r j) i p

pub unlevel_in : (h : ℕ) (g : Grid) (i j : ℕ) → i < 2 * h → j < 2 * h → unlevel h g i j ≡ one_of j (one_of i (g (i / 2) (j / 2)) (g (h + i / 2) (j / 2))) (one_of i (g (i / 2) (h + j / 2)) (g (h + i / 2) (h + j / 2)))
unlevel_in h g i j p q =
    cond-true _ _ _ (lt-ltb i (2 * h) p) ∙ joined_in h (in_columns (2 * h) (joined h) g i) j q ∙ ap₂ (one_of j) (column_in h g i (j / 2) p (omega arith)) (column_in h g i (h + j / 2) p (omega arith))

column_out : (h : ℕ) (g : Grid) (i j : ℕ) → (2 * h ≤ i) ⊎ (2 * h ≤ j) → in_columns (2 * h) (joined h) g i j ≡ g i j
column_out h g i j (inr q) = cond-false _ _ _ (le-ltb j (2 * h) q)
column_out h g i j (inl p) = elim (cases_lt j (2 * h)) [ inl q ↦ cond-true _ _ _ (lt-ltb j (2 * h) q) ∙ joined_rest h (λ r. g r j) i p | inr q ↦ cond-false _ _ _ (le-ltb j (2 * h) q) ]

pub unlevel_out : (h : ℕ) (g : Grid) (i j : ℕ) → (2 * h ≤ i) ⊎ (2 * h ≤ j) → unlevel h g i j ≡ g i j
unlevel_out h g i j (inl p) = cond-false _ _ _ (le-ltb i (2 * h) p) ∙ column_out h g i j (inl p)
unlevel_out h g i j (inr q) = elim (cases_lt i (2 * h)) [ inl p ↦ cond-true _ _ _ (lt-ltb i (2 * h) p) ∙ joined_rest h (in_columns (2 * h) (joined h) g i) j q ∙ column_out h g i j (inr q) | inr p ↦ cond-false _ _ _ (le-ltb i (2 * h) p) ∙ column_out h g i j (inr q) ]

-- What the grids are apart on a square of side s, and outside of that of side h, and what the undone level makes of that.
unlevel_near : (s h : ℕ) (g g' : Grid) (e E : ℕ) → 2 * h ≤ s → On s (λ i j. Near (g i j) (g' i j) e) → On s (λ i j. (h ≤ i) ⊎ (h ≤ j) → Near (g i j) (g' i j) E) →
    (i j : ℕ) → i < 2 * h → j < 2 * h → Near (unlevel h g i j) (unlevel h g' i j) (e + ceil_half E + ceil_half (E + ceil_half E))
unlevel_near s h g g' e E le inside outside i j p q =
    near_by _ _ _ _ _ (unlevel_in h g i j p q) (unlevel_in h g' i j p q)
    (one_near j _ _ _ _ (e + ceil_half E) (E + ceil_half E)
    (one_near i _ _ _ _ e E (inside (i / 2) (j / 2) (omega arith) (omega arith)) (outside (h + i / 2) (j / 2) (omega arith) (omega arith) (inl (omega arith))))
    (one_near i _ _ _ _ E E (outside (i / 2) (h + j / 2) (omega arith) (omega arith) (inr (omega arith))) (outside (h + i / 2) (h + j / 2) (omega arith) (omega arith) (inl (omega arith)))))

-- the same over k levels: E + k * growth E everywhere, and E outside of the square of side w
abbrev Spread : ℕ → ℕ → ℕ → ℕ → Grid → Grid → Type 0
Spread s w n E g g' = On s (λ i j. Near (g i j) (g' i j) n) × On s (λ i j. (w ≤ i) ⊎ (w ≤ j) → Near (g i j) (g' i j) E)

wider : (h w i j : ℕ) → h ≤ w → (w ≤ i) ⊎ (w ≤ j) → (h ≤ i) ⊎ (h ≤ j)
wider h w i j p (inl q) = inl (omega arith)
wider h w i j p (inr q) = inr (omega arith)

more : (E k : ℕ) → E + k * growth E + ceil_half E + ceil_half (E + ceil_half E) ≤ E + suc k * growth E
more E k = omega arith

raised : (x m n : ℕ) → m ≤ n → x ≤ m → x ≤ n
raised x m n p q = omega arith

pub unlevels_near : (k w s : ℕ) (g g' : Grid) (E : ℕ) → w ≤ s → On s (λ i j. Near (g i j) (g' i j) E) → Spread s w (E + k * growth E) E (unlevels k w g) (unlevels k w g')
unlevels_near zero w s g g' E le near = ((λ i j p q. raised _ E _ (omega arith) (near i j p q)), (λ i j p q _. near i j p q))
unlevels_near (suc k) w s g g' E le near =
    let h : ℕ = w / 2 in
    let u : Grid = unlevels k h g in
    let u' : Grid = unlevels k h g' in
    let ih : Spread s h (E + k * growth E) E u u' = unlevels_near k h s g g' E (omega arith) near in
    let out : On s (λ i j. (2 * h ≤ i) ⊎ (2 * h ≤ j) → Near (unlevel h u i j) (unlevel h u' i j) E) =
    λ i j p q o. near_by _ _ _ _ _ (unlevel_out h u i j o) (unlevel_out h u' i j o) (ih.1 i j p q (wider h (2 * h) i j (omega arith) o)) in
    let far : On s (λ i j. (2 * h ≤ i) ⊎ (2 * h ≤ j) → Near (unlevel h u i j) (unlevel h u' i j) (E + suc k * growth E)) =
    λ i j p q o. raised _ E _ (omega arith) (out i j p q o) in (
      (λ i j p q. elim (cases_lt i (2 * h)) [
        | inr x ↦ far i j p q (inl x)
        | inl x ↦ elim (cases_lt j (2 * h)) [
          | inr y ↦ far i j p q (inr y)
          | inl y ↦ raised _ _ _ (more E k) (unlevel_near s h u u' (E + k * growth E) E (omega arith) ih.0 ih.1 i j x y)
        ]
      ]),
      (λ i j p q o. out i j p q (wider (2 * h) w i j (omega arith) o)),
    )

bound_is : (q k : ℕ) → q < 16 → bound_of q k ≡ 2 ^ q - 1 + k * growth (2 ^ q - 1)
unfolding bound_of
bound_is q k h = rw (drift_is_growth q h)

maps_near : (q k : ℕ) → q < 16 → MapsNear q k (bound_of q k)
unfolding undone
maps_near q k h m c c' near i j x y = rw (bound_is q k h) ((unlevels_near k (2 ^ m) (2 ^ m) c c' (2 ^ q - 1) (omega arith) near).0 i j x y)

heights_near : (q k : ℕ) → q < 16 → HeightsNear q k (bound_of q k)
heights_near q k h m g c near i j x y = rw (comes_back m k g i j x y) at (maps_near q k h m (transform m k g) c near i j x y)

bound_falls : (q q' k : ℕ) → q < 16 → q' ≤ q → bound_of q' k ≤ bound_of q k
bound_falls q q' k h le =
    let p : 2 ^ q' ≤ 2 ^ q = pow_mono le in
    let l : growth (2 ^ q' - 1) ≤ growth (2 ^ q - 1) = omega arith in
    let m : k * growth (2 ^ q' - 1) ≤ k * growth (2 ^ q - 1) = mul-le-mul_left k l in
    rw (bound_is q' k (omega arith), bound_is q k h) (omega arith)

two : (q : ℕ) → 0 < q → 2 ≤ 2 ^ q
two q h = pow_mono {i = 1} {j = q} h

bound_exact : (q k : ℕ) → bound_of q k ≡ 0 → q ≡ 0
unfolding bound_of
bound_exact q k e = elim (cases_eq q 0) [ inl z ↦ z | inr n ↦ absurd (let t = two q (omega arith) in omega arith) ]

pub admitted : (q k : ℕ) → q < 16 → Admitted q k (bound_of q k)
unfolding bound_of drift_of
admitted q k h = record { maps = maps_near q k h; heights = heights_near q k h; exact = bound_exact q k; closed = λ z. rw z (omega arith); falls = λ q' le. bound_falls q q' k h le }

-- grids that agree on the square are undone alike there: the case of no error
near_same : (a b : ℤ) → a ≡ b → Near a b 0
near_same a b p = omega (arith, ints)

same_near : (a b : ℤ) (n : ℕ) → n ≡ 0 → Near a b n → a ≡ b
same_near a b n e p = omega (arith, ints)

unlevels_local : (k w s : ℕ) (g g' : Grid) → w ≤ s → On s (λ i j. g i j ≡ g' i j) → On s (λ i j. unlevels k w g i j ≡ unlevels k w g' i j)
unlevels_local k w s g g' le same i j p q = same_near _ _ (0 + k * growth 0) (omega arith) ((unlevels_near k w s g g' 0 le (λ i j p q. near_same _ _ (same i j p q))).0 i j p q)

pub undone_local : (m k : ℕ) (g g' : Grid) → On (2 ^ m) (λ i j. g i j ≡ g' i j) → On (2 ^ m) (λ i j. undone m k g i j ≡ undone m k g' i j)
unfolding undone
undone_local m k g g' same = unlevels_local k (2 ^ m) (2 ^ m) g g' (omega arith) same

-- no coefficients, no heights
one_flat : (j : ℕ) → one_of j (pos 0) (pos 0) ≡ pos 0
unfolding one_of
one_flat j = elim (cases_Bool (eqb (j % 2) 0)) [ inl e ↦ rw e refl | inr e ↦ rw e refl ]

unlevel_flat : (h i j : ℕ) → unlevel h (λ i j. pos 0) i j ≡ pos 0
unlevel_flat h i j = elim (cases_lt i (2 * h)) [
  | inr p ↦ unlevel_out h (λ i j. pos 0) i j (inl p)
  | inl p ↦ elim (cases_lt j (2 * h)) [
    | inr q ↦ unlevel_out h (λ i j. pos 0) i j (inr q)
    | inl q ↦ unlevel_in h (λ i j. pos 0) i j p q ∙ ap₂ (one_of j) (one_flat i) (one_flat i) ∙ one_flat j
  ]
]

unlevels_flat : (k w : ℕ) → unlevels k w (λ i j. pos 0) ≡ (λ i j. pos 0)
unlevels_flat zero w = refl
unlevels_flat (suc k) w = ap (unlevel (w / 2)) (unlevels_flat k (w / 2)) ∙ fun_ext (λ i. fun_ext (λ j. unlevel_flat (w / 2) i j))

from_flat : (a : ℤ) (n : ℕ) → Near (pos 0) a n → nat_abs a ≤ n
from_flat a n p = omega (arith, ints)

to_flat : (a : ℤ) → nat_abs a < 2 ^ 15 → Near (pos 0) a 32767
to_flat a p = omega (arith, ints)

-- for any number of levels
readings : (k w s : ℕ) (g : Grid) → w ≤ s → On s (λ i j. nat_abs (g i j) < 2 ^ 15) → On s (λ i j. nat_abs (unlevels k w g i j) ≤ 32767 + k * 40960)
readings k w s g le small i j p q =
    let n : Near (unlevels k w (λ i j. pos 0) i j) (unlevels k w g i j) (32767 + k * 40960) = (unlevels_near k w s (λ i j. pos 0) g 32767 le (λ i j p q. to_flat (g i j) (small i j p q))).0 i j p q in
    let z : unlevels k w (λ i j. pos 0) i j ≡ pos 0 = ap (λ u. u i j) (unlevels_flat k w) in
    from_flat (unlevels k w g i j) _ (near_by _ _ _ _ _ (sym z) refl n)

pub readings_small : ReadingsSmall
unfolding undone
readings_small m k g le small i j p q = let r = readings k (2 ^ m) (2 ^ m) g (omega arith) small i j p q in omega arith

sum_is : (q k d l : ℕ) → d ≡ drift_of q → l ≡ k → q < 16 → (1 * 2 ^ q) % 4294967296 - 1 + l * d ≡ bound_of q k
unfolding bound_of
sum_is q k d l w f p = rw (one_shl q 32 (omega arith), w, f)

pub answered : (q k d l : ℕ) → Some d ≡ for_planes q (drift_of q) → l ≡ k →
    (Some ((1 * 2 ^ q) % 4294967296 - 1 + l * d) ≡ for_planes q (bound_of q k)) × Admitted q k ((1 * 2 ^ q) % 4294967296 - 1 + l * d)
answered q k d l e f = elim (cases_lt q 16) [
  | inr p ↦ absurd (let z : ◌≡◌ {A = ℕ} 0 1 = cc (e, cond-false (ltb q 16) (Some (drift_of q)) None (le-ltb q 16 p)) in omega arith)
  | inl p ↦
      let w : d ≡ drift_of q = cc (e, cond-true (ltb q 16) (Some (drift_of q)) None (lt-ltb q 16 p)) in
      let s = sum_is q k d l w f p in
      (ap Some s ∙ sym (cond-true (ltb q 16) _ None (lt-ltb q 16 p)), subst (Admitted q k) (sym s) (admitted q k p))
]
