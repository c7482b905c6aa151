-- What a ground tells of its grid g, of side 2^m.
use Rattle.std.specs.Prelude.{◌≡◌, ℕ, ◌+◌, ◌/◌, ◌^◌, ◌<◌, ◌≤◌, Bool, ◌&&◌, ◌⊎◌, List, length, ℤ, pos, nat_le, slice_index_or, unsigned_abs}
use Rattle.head.specs.Heads.{inside}
use Rattle.speck.specs.Grid.{Grid, is_negative}
use Rattle.speck.specs.Survey.{odd}
use Rattle.speck.specs.Receiver.{InGrid}
use Rattle.speck.specs.Laws.{InPlace}
use Rattle.speck.specs.declared.Part.TheVariants.{Block}

-- Some cell of the grid, one of those named, has a magnitude of `least` or more.
pub record Reaches (m : ℕ) (g : Grid) (least : ℕ) (Named : ℕ → ℕ → Type 0) : Type 0 where
  pub row : ℕ
  pub column : ℕ
  pub within : InGrid m row column
  pub named : Named row column
  pub large : least ≤ unsigned_abs (g row column)

-- one of the numbers of a list does
abbrev pub SomeReach : List ℤ → ℕ → Type 0
SomeReach xs least = (p : ℕ) × (p < length xs) × (least ≤ unsigned_abs (slice_index_or xs p (pos 0)))

-- the cells of a rectangle: rows from top, columns from left, up to but not bottom and right
pub record InRectangle (top bottom left right i j : ℕ) : Type 0 where
  pub below : top ≤ i
  pub above : i < bottom
  pub beside : left ≤ j
  pub before : j < right

-- the cells of the block of side 2^s at a row and a column
abbrev pub InBlock : ℕ → ℕ → ℕ → ℕ → ℕ → Type 0
InBlock r c s = InRectangle r (r + 2 ^ s) c (c + 2 ^ s)

-- the cells outside the top left square of side w
abbrev pub Outside : ℕ → ℕ → ℕ → Type 0
Outside w i j = (w ≤ i) ⊎ (w ≤ j)

-- A block is answered by yes if it lies wholly inside, its row and column multiples of its side, the plane is at most 14, and some cell of it reaches 2^n.
pub record BlockTells (m : ℕ) (g : Grid) (r c s n : ℕ) : Type 0 where
  pub place : InPlace m (Block s r c)
  pub plane : n ≤ 14
  pub reaches : Reaches m g (2 ^ n) (InBlock r c s)

-- The rest outside the square of side w, if w is a power of two.
pub record RestTells (m : ℕ) (g : Grid) (w n : ℕ) : Type 0 where
  pub exponent : ℕ
  pub power : w ≡ 2 ^ exponent
  pub plane : n ≤ 14
  pub reaches : Reaches m g (2 ^ n) (Outside w)

-- a cell's sign: yes if it lies inside and its number is negative
abbrev pub sign_told : ℕ → Grid → ℕ → ℕ → Bool
sign_told m g r c = inside m r c && is_negative (g r c)

-- bit n of a cell: yes if it lies inside, the plane is at most 14, and floor (magnitude / 2^n) is odd
abbrev pub bit_told : ℕ → Grid → ℕ → ℕ → ℕ → Bool
bit_told m g r c n = inside m r c && (nat_le n 14 && odd (unsigned_abs (g r c) / 2 ^ n))
