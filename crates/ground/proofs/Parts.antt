-- What a ground tells of a block or a rest is its significance.
use Rattle.std.proofs.Common.{◌↔◌, IsTrue, ◌≡◌, ℕ, suc, ◌+◌, ◌^◌, ◌<◌, ◌≤◌, Bool, true, false, ◌⊎◌, sym, refl, ap, inl, inr, arith, pow_mono}
use lib.Pow.{pow-lt}
use Rattle.std.proofs.lemmas.Bool.{cases_lt}
use Rattle.std.proofs.lemmas.Bool.Decides.{nat_tests}
use Rattle.speck.specs.Grid.{Grid, inside, significant, span, square}
use Rattle.speck.specs.Laws.{InPlace}
use Rattle.speck.specs.declared.Part.TheVariants.{Block, Rest}
use Rattle.speck.proofs.Consequences.{significance}
use Rattle.ground.specs.Tells.{InBlock, InRectangle, Outside, Reaches, RestTells}

-- a power of two below another has the smaller exponent
pub exponent_lt : (x m : ℕ) → 2 ^ x < 2 ^ m → x < m
exponent_lt x m h = by (cases_lt x m)
  where
    by : (x < m) ⊎ (m ≤ x) → x < m
    by (inl l) = l
    by (inr l) = absurd (omega (arith, pow_mono {i = m} {j = x} l))

pub side_below : (m s r c : ℕ) → InPlace m (Block s r c) → s ≤ m
side_below m s r c p = by (cases_lt m s)
  where
    by : (m < s) ⊎ (s ≤ m) → s ≤ m
    by (inl l) = absurd (omega (arith, p.0, pow-lt {i = m} {j = s} l))
    by (inr l) = l

-- a cell outside a square makes the square smaller than the grid
pub inner_below : (m : ℕ) (g : Grid) (w n : ℕ) (t : RestTells m g w n) → t.exponent < m
inner_below m g w n t = exponent_lt t.exponent m (by t.reaches.named)
  where
    by : Outside w t.reaches.row t.reaches.column → 2 ^ t.exponent < 2 ^ m
    by (inl l) = omega (arith, t.power, t.reaches.within.row)
    by (inr l) = omega (arith, t.power, t.reaches.within.column)

pub rest_none : (m : ℕ) (g : Grid) (w n : ℕ) → ((x : ℕ) → x < m → w ≡ 2 ^ x → ⊥) → RestTells m g w n → ⊥
rest_none m g w n none t = none t.exponent (inner_below m g w n t) t.power

-- what lies outside a square lies beside it or below it
pub outside_below : (m : ℕ) (g : Grid) (w least side : ℕ) → Reaches m g least (InRectangle w side 0 side) → Reaches m g least (Outside w)
outside_below m g w least side q = record { row = q.row; column = q.column; within = q.within; named = inl q.named.below; large = q.large }

pub outside_either : (m : ℕ) (g : Grid) (w least side : ℕ) → side ≡ 2 ^ m → Reaches m g least (Outside w) → Reaches m g least (InRectangle 0 w w side) ⊎ Reaches m g least (InRectangle w side 0 side)
outside_either m g w least side s q = by (cases_lt q.row w) q.named
  where
    by : (q.row < w) ⊎ (w ≤ q.row) → Outside w q.row q.column → Reaches m g least (InRectangle 0 w w side) ⊎ Reaches m g least (InRectangle w side 0 side)
    by (inr l) o = inr (record { row = q.row; column = q.column; within = q.within; named = record { below = l; above = omega (arith, q.within.row); beside = omega arith; before = omega (arith, q.within.column) }; large = q.large })
    by (inl l) (inl k) = absurd (omega arith)
    by (inl l) (inr k) = inl (record { row = q.row; column = q.column; within = q.within; named = record { below = omega arith; above = l; beside = k; before = omega (arith, q.within.column) }; large = q.large })

-- a cell of a part, by its row and column
block_named : (s r c i j : ℕ) → 0 < inside (Block s r c) i j → InBlock r c s i j
unfolding inside square span
block_named s r c i j h = record { below = grind (arith, nat_tests); above = grind (arith, nat_tests); beside = grind (arith, nat_tests); before = grind (arith, nat_tests) }

named_block : (s r c i j : ℕ) → r ≤ i → i < r + 2 ^ s → c ≤ j → j < c + 2 ^ s → 0 < inside (Block s r c) i j
unfolding inside square span
named_block s r c i j a b d e = grind (arith, nat_tests)

rest_inside : (d x i j : ℕ) → 0 < inside (Rest d x) i j → (i < 2 ^ (x + suc d)) × (j < 2 ^ (x + suc d)) × ((2 ^ x ≤ i) ⊎ (2 ^ x ≤ j))
unfolding inside square span
rest_inside d x i j h = (grind (arith, nat_tests), grind (arith, nat_tests), grind (arith, nat_tests))

inside_rest : (d x i j : ℕ) → i < 2 ^ (x + suc d) → j < 2 ^ (x + suc d) → (2 ^ x ≤ i) ⊎ (2 ^ x ≤ j) → 0 < inside (Rest d x) i j
unfolding inside square span
inside_rest d x i j p q (inl h) = grind (arith, nat_tests)
inside_rest d x i j p q (inr h) = grind (arith, nat_tests)

-- the significance of a block in its place, and of the rest outside a square, in the words of a ground
pub block_exactly : (m : ℕ) (g : Grid) (n s r c : ℕ) → InPlace m (Block s r c) → (IsTrue (significant g n (Block s r c)) ↔ Reaches m g (2 ^ n) (InBlock r c s))
block_exactly m g n s r c p = (
  λ e. let h = (significance g n (Block s r c)).0 e in
      let b = block_named s r c h.0 h.1 h.2 in
      record { row = h.0; column = h.1; within = record { row = omega (arith, b.above, p.0); column = omega (arith, b.before, p.1) }; named = b; large = h.3 },
  λ q. (significance g n (Block s r c)).1 (q.row, q.column, named_block s r c q.row q.column q.named.below q.named.above q.named.beside q.named.before, q.large),
)

pub rest_exactly : (m : ℕ) (g : Grid) (n d x : ℕ) → x + suc d ≡ m → (IsTrue (significant g n (Rest d x)) ↔ Reaches m g (2 ^ n) (Outside (2 ^ x)))
rest_exactly m g n d x e =
    let w = ap (λ k. 2 ^ k) e in (
      λ y. let h = (significance g n (Rest d x)).0 y in
          let b = rest_inside d x h.0 h.1 h.2 in
          record { row = h.0; column = h.1; within = record { row = omega (arith, b.0); column = omega (arith, b.1) }; named = b.2; large = h.3 },
      λ q. (significance g n (Rest d x)).1 (q.row, q.column, inside_rest d x q.row q.column (omega (arith, q.within.row)) (omega (arith, q.within.column)) q.named, q.large),
    )

-- two answers that say the same are one
pub same_yes : (a b : Bool) (Q : Type 0) → (IsTrue a ↔ Q) → (IsTrue b ↔ Q) → a ≡ b
same_yes true true Q p q = refl
same_yes true false Q p q = sym (q.1 (p.0 refl))
same_yes false true Q p q = p.1 (q.0 refl)
same_yes false false Q p q = refl
