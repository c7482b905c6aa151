use Rattle.std.specs.Prelude.{◌≡◌, ℕ, ◌+◌, ◌*◌, ◌<◌, ◌≤◌, List, ℤ, pos, slice_index_or, unsigned_abs}
use Rattle.transform.specs.Transform.{Line, Grid, On}

-- what can be halved, and undone, in 32 bits
abbrev pub Small : ℤ → Type 0
Small z = unsigned_abs z ≤ 1048576

-- the numbers of a list that stand a stride apart, from its front on
abbrev pub strided : List ℤ → ℕ → Line
strided xs stride t = slice_index_or xs (t * stride) (pos 0)

-- A list as lines: line i begins at i * across, and its numbers lie `along` apart. Rows have across = 2^m and along = 1, and columns the other way round.
abbrev pub lines_of : List ℤ → ℕ → ℕ → Grid
lines_of xs across along i j = slice_index_or xs (i * across + j * along) (pos 0)

-- In a square of side s no two cells lie at one place.
abbrev pub Apart : ℕ → ℕ → ℕ → Type 0
Apart s across along = (i j i' j' : ℕ) → i < s → j < s → i' < s → j' < s → i * across + j * along ≡ i' * across + j' * along → (i ≡ i') × (j ≡ j')

-- Its cells lie below n.
abbrev pub Within : ℕ → ℕ → ℕ → ℕ → Type 0
Within s across along n = On s (λ i j. i * across + j * along < n)
