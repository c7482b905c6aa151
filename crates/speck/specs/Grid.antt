-- A grid of coefficients, the parts that are asked about, and when a part is significant.
use Rattle.std.specs.Prelude.{ℕ, zero, suc, ◌+◌, ◌-◌, ◌*◌, ◌/◌, ◌^◌, Bool, true, false, cond, ◌||◌, List, [], ◌∷◌, ℤ, pos, negsuc, nat_le, nat_lt, unsigned_abs}
use Rattle.speck.specs.declared.Part.{Part}
use Rattle.speck.specs.declared.Part.TheVariants.{Block, Rest}

-- a number at each row and column
abbrev pub Grid : Type 0
Grid = ℕ → ℕ → ℤ

abbrev pub magnitude : ℤ → ℕ
magnitude z = unsigned_abs z

-- the answer to the question for a sign: yes for a negative number
abbrev pub is_negative : ℤ → Bool
is_negative (pos n) = false
is_negative (negsuc n) = true

-- the number with this sign and magnitude
abbrev pub signed : Bool → ℕ → ℤ
signed false n = pos n
signed true zero = pos zero
signed true (suc n) = negsuc n

-- The upper bits of a number: what is left without its n lowest, floor (x / 2^n).
abbrev pub upper : ℕ → ℕ → ℕ
upper zero x = x
upper (suc n) x = upper n x / 2

-- A part is Block s r c, the block of side 2^s whose top left cell is at row r and column c, or Rest d x, what the top left square of side 2^(x + d + 1) has outside that of side 2^x. A rest is never empty.
-- What the top left square of side 2^(x + d) has outside that of side 2^x: nothing, or a rest.
abbrev pub outside : ℕ → ℕ → List Part
outside zero x = []
outside (suc d) x = Rest d x ∷ []

-- A part is a single cell, or is made of smaller parts, in the order in which they are asked: a block of its quarters, a rest of its three blocks and the rest beyond them.
pub data View : Type 0 where
  cell : ℕ → ℕ → View
  parts : Part → List Part → View

abbrev pub view : Part → View
view (Block zero r c) = cell r c
view (Block (suc s) r c) = parts (Block s r c) (Block s r (c + 2 ^ s) ∷ Block s (r + 2 ^ s) c ∷ Block s (r + 2 ^ s) (c + 2 ^ s) ∷ [])
view (Rest d x) = parts (Block x 0 (2 ^ x)) (Block x (2 ^ x) 0 ∷ Block x (2 ^ x) (2 ^ x) ∷ outside d (suc x))

-- Whether a cell is in a part, as a number, so that parts can be counted: 1 for a ≤ i < a + w, else 0,
unfoldable pub span : ℕ → ℕ → ℕ → ℕ
span a w i = cond (nat_le a i) (cond (nat_lt i (a + w)) 1 0) 0

-- and so for a square,
unfoldable pub square : ℕ → ℕ → ℕ → ℕ → ℕ → ℕ
square s r c i j = span r (2 ^ s) i * span c (2 ^ s) j

-- and for a part.
unfoldable pub inside : Part → ℕ → ℕ → ℕ
inside (Block s r c) i j = square s r c i j
inside (Rest d x) i j = square (x + suc d) 0 0 i j - square x 0 0 i j

-- How many of the parts have the cell.
abbrev pub coverage : List Part → ℕ → ℕ → ℕ
coverage [] i j = 0
coverage (p ∷ ps) i j = inside p i j + coverage ps i j

-- A coefficient is significant for plane n if its magnitude is 2^n or more.
abbrev pub significant_cell : ℕ → ℤ → Bool
significant_cell n z = nat_lt 0 (upper n (magnitude z))

-- A part is significant if one of its cells is: this is worked out from its parts.
abbrev pub significant_block : Grid → ℕ → ℕ → ℕ → ℕ → Bool
significant_block g n zero r c = significant_cell n (g r c)
significant_block g n (suc s) r c = significant_block g n s r c || (significant_block g n s r (c + 2 ^ s) || (significant_block g n s (r + 2 ^ s) c || (significant_block g n s (r + 2 ^ s) (c + 2 ^ s) || false)))

abbrev pub significant_rest : Grid → ℕ → ℕ → ℕ → Bool
significant_rest g n zero x = significant_block g n x 0 (2 ^ x) || (significant_block g n x (2 ^ x) 0 || (significant_block g n x (2 ^ x) (2 ^ x) || false))
significant_rest g n (suc d) x = significant_block g n x 0 (2 ^ x) || (significant_block g n x (2 ^ x) 0 || (significant_block g n x (2 ^ x) (2 ^ x) || (significant_rest g n d (suc x) || false)))

unfoldable pub significant : Grid → ℕ → Part → Bool
significant g n (Block s r c) = significant_block g n s r c
significant g n (Rest d x) = significant_rest g n d x

abbrev pub any_significant : Grid → ℕ → List Part → Bool
any_significant g n [] = false
any_significant g n (p ∷ ps) = significant g n p || any_significant g n ps
