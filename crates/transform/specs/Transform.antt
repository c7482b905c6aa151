use Rattle.std.specs.Prelude.{◌≡◌, ℕ, zero, suc, ◌+◌, ◌-◌, ◌*◌, ◌/◌, ◌%◌, ◌^◌, ◌<◌, cond, List, ℤ, pos, ◌+ℤ◌, ◌-ℤ◌, ◌==◌, nat_lt, slice_index_or}
use Rattle.std.specs.Int.Signed.{shr_z}

-- A line is a number at each place, and a grid a number at each row and column.
abbrev pub Line : Type 0
Line = ℕ → ℤ

abbrev pub Grid : Type 0
Grid = ℕ → ℕ → ℤ

-- 2^m rows of 2^m numbers, row after row in one list
abbrev pub grid_of : ℕ → List ℤ → Grid
grid_of m xs i j = slice_index_or xs (i * 2 ^ m + j) (pos 0)

-- What holds of each cell of the top left square of side s.
abbrev pub On : ℕ → (ℕ → ℕ → Type 0) → Type 0
On s P = (i j : ℕ) → i < s → j < s → P i j

-- floor (z / 2), towards minus infinity
abbrev pub floor_half : ℤ → ℤ
floor_half z = shr_z z 2

-- Halving the pair a, b gives its low and its difference.
abbrev pub low_of : ℤ → ℤ → ℤ
low_of a b = floor_half (a +ℤ b)

abbrev pub difference_of : ℤ → ℤ → ℤ
difference_of a b = a -ℤ b

-- Undoing it: the first of the pair from its low and its difference, and then the second.
abbrev pub first_of : ℤ → ℤ → ℤ
first_of l d = l +ℤ floor_half (d +ℤ pos 1)

abbrev pub second_of : ℤ → ℤ → ℤ
second_of l d = first_of l d -ℤ d

-- A halved line has h lows and behind them h differences. The pair that place j tells of, and what it tells of the pair a, b.
abbrev pub pair_of : ℕ → ℕ → ℕ
pair_of h j = cond (nat_lt j h) j (j - h)

unfoldable pub part_of : ℕ → ℕ → ℤ → ℤ → ℤ
part_of h j a b = cond (nat_lt j h) (low_of a b) (difference_of a b)

-- The first 2h numbers of a line, halved pair by pair: the pair p stands at 2p and 2p + 1. The rest stays.
unfoldable pub halved : ℕ → Line → Line
halved h f j = cond (nat_lt j (2 * h)) (part_of h j (f (2 * pair_of h j)) (f (2 * pair_of h j + 1))) (f j)

-- What stands at place j of the pair with this low and difference: the first of the pair at an even place, the second at an odd one.
unfoldable pub one_of : ℕ → ℤ → ℤ → ℤ
one_of j l d = cond (j % 2 == 0) (first_of l d) (second_of l d)

-- From h lows and the h differences behind them the 2h numbers. The rest stays.
unfoldable pub joined : ℕ → Line → Line
joined h f j = cond (nat_lt j (2 * h)) (one_of j (f (j / 2)) (f (h + j / 2))) (f j)

-- What `change` makes of each of the first w rows, and of each of the first w columns.
abbrev pub in_rows : ℕ → (Line → Line) → Grid → Grid
in_rows w change g i j = cond (nat_lt i w) (change (g i) j) (g i j)

abbrev pub in_columns : ℕ → (Line → Line) → Grid → Grid
in_columns w change g i j = cond (nat_lt j w) (change (λ r. g r j) i) (g i j)

-- One level, on the top left square of side 2h: its rows, then its columns. To undo it: its columns, then its rows.
abbrev pub level : ℕ → Grid → Grid
level h g = in_columns (2 * h) (halved h) (in_rows (2 * h) (halved h) g)

abbrev pub unlevel : ℕ → Grid → Grid
unlevel h g = in_rows (2 * h) (joined h) (in_columns (2 * h) (joined h) g)

-- k levels: the first on the square of side w, each further one on a square of half the side.
abbrev pub levels : ℕ → ℕ → Grid → Grid
levels zero w g = g
levels (suc k) w g = levels k (w / 2) (level (w / 2) g)

-- To undo k levels, the smallest square comes first.
abbrev pub unlevels : ℕ → ℕ → Grid → Grid
unlevels zero w g = g
unlevels (suc k) w g = unlevel (w / 2) (unlevels k (w / 2) g)

-- The coefficients of a map of side 2^m by k levels, and the map that coefficients give.
unfoldable pub transform : ℕ → ℕ → Grid → Grid
transform m k = levels k (2 ^ m)

unfoldable pub undone : ℕ → ℕ → Grid → Grid
undone m k = unlevels k (2 ^ m)

-- Undoing the transform gives the heights back.
abbrev pub ComesBack : Type 0
ComesBack = (m k : ℕ) (g : Grid) → On (2 ^ m) (λ i j. undone m k (transform m k g) i j ≡ g i j)
