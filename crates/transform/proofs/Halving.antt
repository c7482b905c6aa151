use Rattle.std.proofs.Common.{◌≡◌, ℕ, ◌+◌, ◌-◌, ◌*◌, ◌/◌, ◌%◌, ◌<◌, ◌≤◌, ℤ, pos, negsuc, ◌+ℤ◌, ◌-ℤ◌, sym, ap, ◌∙◌, ap₂, inl, inr, arith}
use borrow.Author.Differences.{up, down, ints}
use lib.Signed.{shr_z}
use Rattle.std.proofs.lemmas.Bool.{lt-ltb, le-ltb, eq-eqb, ne_eqb, cases_lt, cases_eq, cond-true, cond-false}
use Rattle.transform.specs.Transform.{Line, low_of, first_of, second_of, pair_of, part_of, halved, one_of, joined}

-- twice the half is z, or one less: for omega, which reads z as `up z - down z`
pub half_is : (z : ℤ) → (2 * up (shr_z z 2) + down z ≤ up z + 2 * down (shr_z z 2)) × (up z + 2 * down (shr_z z 2) ≤ 2 * up (shr_z z 2) + down z + 1)
half_is (pos n) = omega arith
half_is (negsuc n) = omega arith

-- the two parts of a halved line
pub halved_in : (h : ℕ) (f : Line) (j : ℕ) → j < 2 * h → halved h f j ≡ part_of h j (f (2 * pair_of h j)) (f (2 * pair_of h j + 1))
unfolding halved
halved_in h f j p = cond-true _ _ _ (lt-ltb j (2 * h) p)

pub halved_rest : (h : ℕ) (f : Line) (j : ℕ) → 2 * h ≤ j → halved h f j ≡ f j
unfolding halved
halved_rest h f j p = cond-false _ _ _ (le-ltb j (2 * h) p)

-- the first half has the lows, and the second the differences
pub halved_low : (h : ℕ) (f : Line) (j : ℕ) → j < h → halved h f j ≡ low_of (f (2 * j)) (f (2 * j + 1))
unfolding halved part_of
halved_low h f j p = let q : j < 2 * h = omega arith in simp (lt-ltb j h p, lt-ltb j (2 * h) q)

pub halved_difference : (h : ℕ) (f : Line) (j : ℕ) → j < h → halved h f (h + j) ≡ f (2 * j) -ℤ f (2 * j + 1)
unfolding halved part_of
halved_difference h f j p =
    let q : h ≤ h + j = omega arith in
    let r : h + j < 2 * h = omega arith in
    let e : h + j - h ≡ j = omega arith in
    simp (le-ltb (h + j) h q, lt-ltb (h + j) (2 * h) r, e)

-- and the two of a joined one
pub joined_in : (h : ℕ) (f : Line) (j : ℕ) → j < 2 * h → joined h f j ≡ one_of j (f (j / 2)) (f (h + j / 2))
unfolding joined
joined_in h f j p = cond-true _ _ _ (lt-ltb j (2 * h) p)

pub joined_rest : (h : ℕ) (f : Line) (j : ℕ) → 2 * h ≤ j → joined h f j ≡ f j
unfolding joined
joined_rest h f j p = cond-false _ _ _ (le-ltb j (2 * h) p)

first_back : (a b l d : ℤ) → l ≡ low_of a b → d ≡ a -ℤ b → first_of l d ≡ a
first_back a b l d p q = omega (arith, ints, half_is (a +ℤ b), half_is (d +ℤ pos 1))

second_back : (a b l d : ℤ) → l ≡ low_of a b → d ≡ a -ℤ b → second_of l d ≡ b
second_back a b l d p q = omega (arith, ints, half_is (a +ℤ b), half_is (d +ℤ pos 1))

one_back : (f : Line) (j : ℕ) (l d : ℤ) → l ≡ low_of (f (2 * (j / 2))) (f (2 * (j / 2) + 1)) → d ≡ f (2 * (j / 2)) -ℤ f (2 * (j / 2) + 1) → one_of j l d ≡ f j
unfolding one_of
one_back f j l d p q =
    elim (cases_eq (j % 2) 0) [
      | inl e ↦ let at : 2 * (j / 2) ≡ j = omega arith in cond-true _ _ _ (eq-eqb (j % 2) 0 e) ∙ first_back _ _ l d p q ∙ ap f at
      | inr e ↦ let at : 2 * (j / 2) + 1 ≡ j = omega arith in cond-false _ _ _ (ne_eqb (j % 2) 0 e) ∙ second_back _ _ l d p q ∙ ap f at
    ]

pub line_back : (h : ℕ) (f : Line) (j : ℕ) → joined h (halved h f) j ≡ f j
line_back h f j =
    elim (cases_lt j (2 * h)) [
      | inl p ↦ joined_in h (halved h f) j p ∙ one_back f j _ _ (halved_low h f (j / 2) (omega arith)) (halved_difference h f (j / 2) (omega arith))
      | inr p ↦ joined_rest h (halved h f) j p ∙ halved_rest h f j p
    ]

-- the rows of a pair are in the square
pub pair_below : (h j : ℕ) → j < 2 * h → pair_of h j < h
pair_below h j p = elim (cases_lt j h) [ inl q ↦ rw (lt-ltb j h q) q | inr q ↦ rw (le-ltb j h q) (omega arith) ]

-- lines that agree on their first s places are halved alike there
pub halved_local : (h s : ℕ) (f f' : Line) → 2 * h ≤ s → ((j : ℕ) → j < s → f j ≡ f' j) → (j : ℕ) → j < s → halved h f j ≡ halved h f' j
halved_local h s f f' le same j l = elim (cases_lt j (2 * h)) [
  | inr p ↦ halved_rest h f j p ∙ same j l ∙ sym (halved_rest h f' j p)
  | inl p ↦
      let b = pair_below h j p in
      halved_in h f j p ∙ ap₂ (part_of h j) (same (2 * pair_of h j) (omega arith)) (same (2 * pair_of h j + 1) (omega arith)) ∙ sym (halved_in h f' j p)
]
