-- A part is made of its parts: each cell of it is in just one.
use Rattle.std.proofs.Common.{◌≡◌, ℕ, zero, suc, ◌+◌, ◌^◌, ◌<◌, ◌≤◌, List, ◌∷◌, refl, add-zero, add-suc, suc-add, zero-add, add-one, arith}
use Rattle.std.proofs.lemmas.Bool.Decides.{nat_tests}
use Rattle.std.specs.List.{AllByRecursion}
use Rattle.speck.specs.declared.Part.{Part}
use Rattle.speck.specs.declared.Part.TheVariants.{Block, Rest}
use Rattle.speck.specs.Grid.{Grid, outside, View, cell, parts, view, significant, inside, coverage, span, square, any_significant, significant_cell}

span_split : (a w i : ℕ) → span a (w + w) i ≡ span a w i + span (a + w) w i
unfolding span
span_split a w i = grind (arith, nat_tests)

span_pow : (a s i : ℕ) → span a (2 ^ suc s) i ≡ span a (2 ^ s) i + span (a + 2 ^ s) (2 ^ s) i
span_pow a s i =
    let e : 2 ^ suc s ≡ 2 ^ s + 2 ^ s = omega arith in
    rw e (span_split a (2 ^ s) i)

span_one : (a i : ℕ) → 0 < span a 1 i → i ≡ a
unfolding span
span_one a i h = grind (arith, nat_tests)

span_self : (a : ℕ) → span a 1 a ≡ 1
unfolding span
span_self a = grind (arith, nat_tests)

pub square_split : (s r c i j : ℕ) → square (suc s) r c i j ≡ square s r c i j + (square s r (c + 2 ^ s) i j + (square s (r + 2 ^ s) c i j + (square s (r + 2 ^ s) (c + 2 ^ s) i j + 0)))
unfolding square
square_split s r c i j = rw (span_pow r s i, span_pow c s j) (omega arith)

square_zero_split : (x i j : ℕ) → square (suc x) 0 0 i j ≡ square x 0 0 i j + (square x 0 (2 ^ x) i j + (square x (2 ^ x) 0 i j + (square x (2 ^ x) (2 ^ x) i j + 0)))
square_zero_split x i j = simp zero-add at (square_split x 0 0 i j)

square_grows : (x d i j : ℕ) → square x 0 0 i j ≤ square (x + d) 0 0 i j
square_grows x zero i j = rw add-zero (omega arith)
square_grows x (suc d) i j = rw add-suc (omega (arith, square_grows x d i j, square_zero_split (x + d) i j))

-- what a part covers, by its view
abbrev pub Made : Part → View → Type 0
Made p (cell r c) = (inside p r c ≡ 1) × ((i j : ℕ) → 0 < inside p i j → (i ≡ r) × (j ≡ c)) × ((i j : ℕ) → inside p i j ≡ inside (Block 0 r c) i j)
Made p (parts k ks) = (i j : ℕ) → inside p i j ≡ coverage (k ∷ ks) i j

one_self : (r c : ℕ) → inside (Block 0 r c) r c ≡ 1
unfolding inside square
one_self r c = rw (span_self r, span_self c)

one_only : (r c i j : ℕ) → 0 < inside (Block 0 r c) i j → (i ≡ r) × (j ≡ c)
unfolding inside square span
one_only r c i j h = grind (arith, nat_tests)

pub made : (p : Part) → Made p (view p)
unfolding inside
made (Block zero r c) = (one_self r c, one_only r c, λ i j. refl)
made (Block (suc s) r c) = square_split s r c
made (Rest zero x) = λ i j. simp (add-one) (omega (arith, square_zero_split x i j))
made (Rest (suc d) x) = λ i j. simp (add-suc, suc-add) (omega (arith, square_zero_split x i j, grows x d i j))
  where
    grows : (x d i j : ℕ) → square (suc x) 0 0 i j ≤ square (suc (suc (x + d))) 0 0 i j
    grows x d i j = simp (add-suc, suc-add) at (square_grows (suc x) (suc d) i j)

-- what holds of a single cell, and of a set whose parts it holds of, holds of every part
module _ (P : Part → Type 0) (one : (r c : ℕ) → P (Block 0 r c)) (more : (p : Part) (k : Part) (ks : List Part) → view p ≡ parts k ks → AllByRecursion P (k ∷ ks) → P p) where
  pub block_ind : (s r c : ℕ) → P (Block s r c)
  block_ind zero r c = one r c
  block_ind (suc s) r c = more (Block (suc s) r c) _ _ refl (block_ind s r c, (block_ind s r (c + 2 ^ s), (block_ind s (r + 2 ^ s) c, (block_ind s (r + 2 ^ s) (c + 2 ^ s), tt))))

  pub rest_ind : (d x : ℕ) → P (Rest d x)
  rest_ind zero x = more (Rest zero x) _ _ refl (block_ind x 0 (2 ^ x), (block_ind x (2 ^ x) 0, (block_ind x (2 ^ x) (2 ^ x), tt)))
  rest_ind (suc d) x = more (Rest (suc d) x) _ _ refl (block_ind x 0 (2 ^ x), (block_ind x (2 ^ x) 0, (block_ind x (2 ^ x) (2 ^ x), (rest_ind d (suc x), tt))))

  pub part_ind : (p : Part) → P p
  part_ind (Block s r c) = block_ind s r c
  part_ind (Rest d x) = rest_ind d x

-- what a test answers of a part, by its view
pub significant_one_cell : (g : Grid) (n r c : ℕ) → significant g n (Block 0 r c) ≡ significant_cell n (g r c)
unfolding significant
significant_one_cell g n r c = refl

abbrev pub LoudBy : Grid → ℕ → Part → View → Type 0
LoudBy g n p (cell r c) = significant g n p ≡ significant_cell n (g r c)
LoudBy g n p (parts k ks) = significant g n p ≡ any_significant g n (k ∷ ks)

pub significant_by : (g : Grid) (n : ℕ) (p : Part) → LoudBy g n p (view p)
unfolding significant
significant_by g n (Block zero r c) = refl
significant_by g n (Block (suc s) r c) = refl
significant_by g n (Rest zero x) = refl
significant_by g n (Rest (suc d) x) = refl

pub one_in : (r c : ℕ) → inside (Block 0 r c) r c ≡ 1
one_in r c = one_self r c

pub one_is : (r c i j : ℕ) → 0 < inside (Block 0 r c) i j → (i ≡ r) × (j ≡ c)
one_is r c i j h = one_only r c i j h

-- the first parts are the whole square
pub whole : (x k i j : ℕ) → coverage (Block x 0 0 ∷ outside k x) i j ≡ square (x + k) 0 0 i j
unfolding inside
whole x zero i j = simp add-zero
whole x (suc d) i j = omega (arith, square_grows x (suc d) i j)

pub square_one : (m i j : ℕ) → square m 0 0 i j ≤ 1
unfolding square span
square_one m i j = grind (arith, nat_tests)

pub square_in : (m i j : ℕ) → i < 2 ^ m → j < 2 ^ m → square m 0 0 i j ≡ 1
unfolding square span
square_in m i j h k = grind (arith, nat_tests)

pub square_row : (m i j : ℕ) → 0 < square m 0 0 i j → i < 2 ^ m
unfolding square span
square_row m i j h = grind (arith, nat_tests)

pub square_col : (m i j : ℕ) → 0 < square m 0 0 i j → j < 2 ^ m
unfolding square span
square_col m i j h = grind (arith, nat_tests)
