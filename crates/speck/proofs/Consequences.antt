-- What follows: which bits are refused, the place of a cell, significance, the number of bit planes.
use Rattle.std.proofs.Common.{◌≡◌, ℕ, zero, suc, ◌+◌, ◌^◌, ◌<◌, ◌≤◌, Bool, true, false, ◌||◌, ◌⊎◌, List, [], ◌∷◌, refl, ◌∙◌, inl, inr, arith, pow_pos, pow_mono}
use Rattle.std.proofs.lemmas.Bool.{cases_lt, cases_order}
use Rattle.speck.specs.declared.Part.TheVariants.{Block}
use Rattle.speck.specs.Survey.{Found}
use Rattle.speck.specs.Grid.{Grid, magnitude, significant, significant_block, inside, square}
use Rattle.speck.specs.Machine.{State, owing, asking, sign, refinement, finished}
use Rattle.speck.specs.Receiver.{InGrid, Headed}
use Rattle.speck.specs.Laws.{RefusedExactly, found_at, places, OnePlace, SignificanceLiteral, SignificanceByParts, OnePlaneCount}
use Rattle.speck.proofs.Geometry.{square_in, square_row, square_col}
use Rattle.speck.proofs.Tells.{tells, says_yes}
use Rattle.speck.proofs.Count.{count, cnt}
use Rattle.speck.proofs.Upper.{upper_none, upper_some, some_upper}
use Rattle.speck.proofs.Theorems.{near_always, open_always, reached_one}

pub refused : RefusedExactly
refused x k P bits = (λ t. open_always x k P bits t.0 t.1, λ b. let n = near_always x k P b.0 b.1 bits b.2 in (n.0, n.1))

found_is : (es : List Found) (i j : ℕ) → found_at es i j ≡ cnt es i j
found_is [] i j = refl
found_is (e ∷ es) i j = omega (arith, found_is es i j)

places_is : (s : State) (i j : ℕ) → places s i j ≡ count s i j
places_is (owing n p ps free noes old new) i j = omega (arith, found_is old i j, found_is new i j)
places_is (asking n p free noes old new) i j = omega (arith, found_is old i j, found_is new i j)
places_is (sign n r c free noes old new) i j = omega (arith, found_is old i j, found_is new i j)
places_is (refinement n e todo done noes new) i j = omega (arith, found_is todo i j, found_is done i j, found_is new i j)
places_is (finished noes old) i j = omega (arith, found_is old i j)

pub one_place : OnePlace
one_place x k P bits s e i j c = places_is s i j ∙ reached_one x k P bits s e i j c

pub significance : SignificanceLiteral
significance g n p = (
  λ e. let l = (tells g n p).yes! e in (l.row, l.column, omega (arith, l.there), upper_some n (magnitude (g l.row l.column)) l.big),
  λ h. says_yes g n p (record { row = h.0; column = h.1; there = omega (arith, h.2); big = some_upper n (magnitude (g h.0 h.1)) h.3 }),
)

or_none : (a b c d : Bool) → (a || (b || (c || (d || false)))) ≡ (a || (b || (c || d)))
or_none true b c d = refl
or_none false true c d = refl
or_none false false true d = refl
or_none false false false true = refl
or_none false false false false = refl

pub by_parts : SignificanceByParts
unfolding significant
by_parts g n s r c = or_none (significant_block g n s r c) (significant_block g n s r (c + 2 ^ s)) (significant_block g n s (r + 2 ^ s) c) (significant_block g n s (r + 2 ^ s) (c + 2 ^ s))

-- the magnitudes of a finite grid are bounded
row_bound : (f : ℕ → ℕ) (n : ℕ) → (b : ℕ) × ((i : ℕ) → i < n → f i ≤ b)
row_bound f zero = (0, λ i h. absurd (omega arith))
row_bound f (suc n) = let y = row_bound f n in (y.0 + f n, λ i h. on y i h (cases_lt i n))
  where
    on : (y : (b : ℕ) × ((i : ℕ) → i < n → f i ≤ b)) (i : ℕ) → i < suc n → (i < n) ⊎ (n ≤ i) → f i ≤ y.0 + f n
    on y i h (inl k) = omega (arith, y.1 i k)
    on y i h (inr k) = let e : i ≡ n = omega arith in rw e (omega arith)

below_pow : (b : ℕ) → b < 2 ^ b
below_pow zero = omega arith
below_pow (suc b) = omega (arith, below_pow b, pow_pos b)

abbrev AllBelow : ℕ → ℕ → Grid → Type 0
AllBelow m b g = (i j : ℕ) → InGrid m i j → magnitude (g i j) < 2 ^ b

some_bound : (m : ℕ) (g : Grid) → (b : ℕ) × AllBelow m b g
some_bound m g =
    let col : (i : ℕ) → (b : ℕ) × ((j : ℕ) → j < 2 ^ m → magnitude (g i j) ≤ b) = λ i. row_bound (λ j. magnitude (g i j)) (2 ^ m) in
    let all : (b : ℕ) × ((i : ℕ) → i < 2 ^ m → (col i).0 ≤ b) = row_bound (λ i. (col i).0) (2 ^ m) in
    (all.0, λ i j c. omega (arith, all.1 i c.row, (col i).1 j c.column, below_pow all.0))

block_inside : (m i j : ℕ) → inside (Block m 0 0) i j ≡ square m 0 0 i j
unfolding inside
block_inside m i j = refl

-- the highest bit plane that is not empty, by the significance of the whole square
highest : (m : ℕ) (g : Grid) (b : ℕ) → AllBelow m b g → (P : ℕ) × Headed m P g
highest m g zero h = (0, record { below = h; top = tt })
highest m g (suc b) h = by (significant g b (Block m 0 0)) refl (highest m g b)
  where
    by : (v : Bool) → significant g b (Block m 0 0) ≡ v → (AllBelow m b g → (P : ℕ) × Headed m P g) → (P : ℕ) × Headed m P g
    by true e ih =
        let l = (significance g b (Block m 0 0)).0 e in
        let c : 0 < square m 0 0 l.0 l.1 = omega (arith, l.2, block_inside m l.0 l.1) in
        (suc b, record { below = h; top = (l.0, l.1, record { row = square_row m l.0 l.1 c; column = square_col m l.0 l.1 c }, l.3) })
    by false e ih = ih (λ i j c. upper_none b (magnitude (g i j)) ((tells g b (Block m 0 0)).no! e i j (omega (arith, block_inside m i j, square_in m i j c.row c.column))))

not_less : (m : ℕ) (g : Grid) (P Q : ℕ) → Headed m P g → Headed m Q g → P < Q → ⊥
not_less m g P zero h k l = omega arith
not_less m g P (suc q) h k l =
    let t = k.top in
    omega (arith, t.3, h.below t.0 t.1 t.2, pow_mono {i = P} {j = q} (omega arith))

pub one_count : OnePlaneCount
one_count m g = (let b = some_bound m g in highest m g b.0 b.1, λ P Q h k. by P Q h k (cases_order P Q))
  where
    by : (P Q : ℕ) → Headed m P g → Headed m Q g → (P ≡ Q) ⊎ ((P < Q) ⊎ (Q < P)) → P ≡ Q
    by P Q h k (inl e) = e
    by P Q h k (inr (inl l)) = absurd (not_less m g P Q h k l)
    by P Q h k (inr (inr l)) = absurd (not_less m g Q P k h l)
