-- The peaks of a grid's blocks, and where they are kept. A block is named by its side exponent s and by its row and column in units of its side 2^s.
use Rattle.std.specs.Prelude.{◌≡◌, ℕ, zero, suc, ◌+◌, ◌-◌, ◌*◌, ◌^◌, ◌<◌, ◌≤◌, max, List, slice_index, unsigned_abs}
use Rattle.speck.specs.declared.Part.{Part}
use Rattle.speck.specs.declared.Part.TheVariants.{Block}
use Rattle.speck.specs.Grid.{Grid, upper}

-- A cell's peak is its magnitude, and a larger block's the largest of its quarters' peaks.
unfoldable pub peak_of : Grid → ℕ → ℕ → ℕ → ℕ
peak_of g zero i j = unsigned_abs (g i j)
peak_of g (suc s) i j = max (max (peak_of g s (2 * i) (2 * j)) (peak_of g s (2 * i) (2 * j + 1))) (max (peak_of g s (2 * i + 1) (2 * j)) (peak_of g s (2 * i + 1) (2 * j + 1)))

-- The peaks are kept from the whole grid's on, one depth after another, each in row order: how many lie at smaller depths than d.
unfoldable pub above : ℕ → ℕ
above zero = 0
above (suc d) = above d + 4 ^ d

-- the place of a block of a grid of side 2^m
abbrev pub place_at : ℕ → ℕ → ℕ → ℕ → ℕ
place_at m s i j = above (m - s) + (i * 2 ^ (m - s) + j)

-- a block named by its depth, as the part that it is
abbrev pub tile_of : ℕ → ℕ → ℕ → ℕ → Part
tile_of m depth i j = Block (m - depth) (i * 2 ^ (m - depth)) (j * 2 ^ (m - depth))

-- a block of a grid of side 2^m
pub record InTree (m s i j : ℕ) : Type 0 where
  pub side : s ≤ m
  pub row : i < 2 ^ (m - s)
  pub column : j < 2 ^ (m - s)

pub record Node (m : ℕ) : Type 0 where
  pub side : ℕ
  pub row : ℕ
  pub column : ℕ
  pub within : InTree m side row column

-- the peak kept for a block is its peak
abbrev pub Right : ℕ → Grid → List ℕ → ℕ → ℕ → ℕ → Type 0
Right m g peaks s i j = slice_index peaks (place_at m s i j) ≡ peak_of g s i j

-- After the peaks of a block were filled in, its own and those of all blocks within it are right, and none that was right before is wrong now.
pub record Filled (m : ℕ) (g : Grid) (s i j : ℕ) (old new : List ℕ) : Type 0 where
  pub inner : (t e k l : ℕ) → t + e ≡ s → upper e k ≡ i → upper e l ≡ j → Right m g new t k l
  pub kept : (t k l : ℕ) → InTree m t k l → Right m g old t k l → Right m g new t k l
