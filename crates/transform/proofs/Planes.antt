use Rattle.std.proofs.Common.{ℕ, zero, suc, ◌+◌, ◌*◌, ◌/◌, ◌^◌, ◌<◌, ◌≤◌, Bool, true, false, cond, ltb, ℤ, ◌+ℤ◌, ◌-ℤ◌, nat_abs, inl, inr, arith}
use borrow.Author.Differences.{ints}
use Rattle.std.proofs.lemmas.Bool.{lt-ltb, le-ltb, cases_lt}
use Rattle.transform.specs.Transform.{Grid, Line, On, low_of, pair_of, part_of, halved, in_rows, level, levels, transform}
use Rattle.transform.specs.Planes.{Span, FifteenPlanes}
use Rattle.transform.proofs.Halving.{half_is, pair_below, halved_in, halved_rest}
use Rattle.transform.proofs.Levels.{level_in, level_out}

-- a low of heights is a height, and a difference of numbers below n is below 2 n
low_span : (a b : ℤ) → Span a → Span b → Span (low_of a b)
low_span a b p q = omega (arith, ints, half_is (a +ℤ b))

part_span : (h j : ℕ) (a b : ℤ) → j < h → Span a → Span b → Span (part_of h j a b)
unfolding part_of
part_span h j a b l p q = rw (lt-ltb j h l) (low_span a b p q)

low_small : (a b : ℤ) (n : ℕ) → nat_abs a ≤ n → nat_abs b ≤ n → nat_abs (low_of a b) ≤ n
low_small a b n p q = omega (arith, ints, half_is (a +ℤ b))

pick_small : (t : Bool) (a b : ℤ) (n : ℕ) → nat_abs a ≤ n → nat_abs b ≤ n → nat_abs (cond t (low_of a b) (a -ℤ b)) ≤ 2 * n
pick_small true a b n p q = let l = low_small a b n p q in omega arith
pick_small false a b n p q = omega (arith, ints)

pub part_small : (h j : ℕ) (a b : ℤ) (n : ℕ) → nat_abs a ≤ n → nat_abs b ≤ n → nat_abs (part_of h j a b) ≤ 2 * n
unfolding part_of
part_small h j a b n p q = pick_small (ltb j h) a b n p q

-- so halving at most doubles what a line, and each row of a square, has
halved_small : (h s n : ℕ) (f : Line) → 2 * h ≤ s → ((j : ℕ) → j < s → nat_abs (f j) ≤ n) → (j : ℕ) → j < s → nat_abs (halved h f j) ≤ 2 * n
halved_small h s n f le small j l = elim (cases_lt j (2 * h)) [
  | inr p ↦ rw (halved_rest h f j p) (omega (arith, small j l))
  | inl p ↦ let b = pair_below h j p in rw (halved_in h f j p) (part_small h j _ _ n (small (2 * pair_of h j) (omega arith)) (small (2 * pair_of h j + 1) (omega arith)))
]

pub rows_small : (w h s n : ℕ) (g : Grid) → 2 * h ≤ s → On s (λ i j. nat_abs (g i j) ≤ n) → On s (λ i j. nat_abs (in_rows w (halved h) g i j) ≤ 2 * n)
rows_small w h s n g le small i j p q = elim (cases_lt i w) [
  | inl l ↦ rw (lt-ltb i w l) (halved_small h s n (g i) le (λ u k. small i u p k) j q)
  | inr l ↦ rw (le-ltb i w l) (omega (arith, small i j p q))
]

-- from heights a difference is at most 16383
pick_height : (t : Bool) (a b : ℤ) → Span a → Span b → nat_abs (cond t (low_of a b) (a -ℤ b)) ≤ 16383
pick_height true a b p q = let l = low_span a b p q in omega (arith, ints)
pick_height false a b p q = omega (arith, ints)

part_height : (h j : ℕ) (a b : ℤ) → Span a → Span b → nat_abs (part_of h j a b) ≤ 16383
unfolding part_of
part_height h j a b p q = pick_height (ltb j h) a b p q

part_planes : (h j : ℕ) (a b : ℤ) → nat_abs a ≤ 16383 → nat_abs b ≤ 16383 → nat_abs (part_of h j a b) < 2 ^ 15
part_planes h j a b p q = let z = part_small h j a b 16383 p q in omega arith

level_height : (h s : ℕ) (g : Grid) → 2 * h ≤ s → On (2 * h) (λ i j. Span (g i j)) → On (2 * h) (λ i j. nat_abs (level h g i j) < 2 ^ 15)
level_height h s g le span i j p q =
    let b = pair_below h i p in
    let d = pair_below h j q in
    let r : ℕ = pair_of h i in
    let c : ℕ = pair_of h j in
    let x = part_height h j (g (2 * r) (2 * c)) (g (2 * r) (2 * c + 1)) (span _ _ (omega arith) (omega arith)) (span _ _ (omega arith) (omega arith)) in
    let y = part_height h j (g (2 * r + 1) (2 * c)) (g (2 * r + 1) (2 * c + 1)) (span _ _ (omega arith) (omega arith)) (span _ _ (omega arith) (omega arith)) in
    rw (level_in h g i j p q) (part_planes h i _ _ x y)

pub level_span : (h : ℕ) (g : Grid) → On (2 * h) (λ i j. Span (g i j)) → On h (λ i j. Span (level h g i j))
level_span h g span i j p q =
    let i2 : i < 2 * h = omega arith in
    let j2 : j < 2 * h = omega arith in
    let b = pair_below h i i2 in
    let d = pair_below h j j2 in
    let r : ℕ = pair_of h i in
    let c : ℕ = pair_of h j in
    let x = part_span h j (g (2 * r) (2 * c)) (g (2 * r) (2 * c + 1)) q (span _ _ (omega arith) (omega arith)) (span _ _ (omega arith) (omega arith)) in
    let y = part_span h j (g (2 * r + 1) (2 * c)) (g (2 * r + 1) (2 * c + 1)) q (span _ _ (omega arith) (omega arith)) (span _ _ (omega arith) (omega arith)) in
    rw (level_in h g i j i2 j2) (part_span h i _ _ p x y)

pub level_planes : (h s : ℕ) (g : Grid) → 2 * h ≤ s → On (2 * h) (λ i j. Span (g i j)) → On s (λ i j. nat_abs (g i j) < 2 ^ 15) → On s (λ i j. nat_abs (level h g i j) < 2 ^ 15)
level_planes h s g le span small i j p q =
    elim (cases_lt i (2 * h)) [
      | inr x ↦ rw (level_out h g i j (inl x)) (small i j p q)
      | inl x ↦ elim (cases_lt j (2 * h)) [
        | inr y ↦ rw (level_out h g i j (inr y)) (small i j p q)
        | inl y ↦ level_height h s g le span i j x y
      ]
    ]

pub narrow : (w : ℕ) (g : Grid) → On w (λ i j. Span (g i j)) → On (2 * (w / 2)) (λ i j. Span (g i j))
narrow w g span i j p q = span i j (omega arith) (omega arith)

-- heights in the square of side w, and at most 15 planes everywhere
pub levels_small : (k w s : ℕ) (g : Grid) → w ≤ s → On w (λ i j. Span (g i j)) → On s (λ i j. nat_abs (g i j) < 2 ^ 15) → On s (λ i j. nat_abs (levels k w g i j) < 2 ^ 15)
levels_small zero w s g le span small = small
levels_small (suc k) w s g le span small =
    levels_small k (w / 2) s (level (w / 2) g) (omega arith) (level_span (w / 2) g (narrow w g span)) (level_planes (w / 2) s g (omega arith) (narrow w g span) small)

pub span_small : (a : ℤ) → Span a → nat_abs a < 2 ^ 15
span_small a p = omega (arith, ints)

pub fifteen_planes : FifteenPlanes
unfolding transform
fifteen_planes m k g span = levels_small k (2 ^ m) (2 ^ m) g (omega arith) span (λ i j p q. span_small (g i j) (span i j p q))
