use Rattle.std.specs.Prelude.{◌≡◌, ℕ, ◌+◌, ◌-◌, ◌*◌, ◌/◌, ◌^◌, ◌<◌, ◌≤◌, cond, List, [], ◌∷◌, ℤ, ◌-ℤ◌, Some, None, Option, nat_lt, slice_index, unsigned_abs}
use Rattle.transform.specs.Transform.{Grid, On, transform, undone}
use Rattle.transform.specs.Planes.{BelowPlanes}

-- two numbers at most n apart
abbrev pub Near : ℤ → ℤ → ℕ → Type 0
Near a b n = unsigned_abs (b -ℤ a) ≤ n

-- two grids at most n apart in each cell of the square of side s
abbrev pub NearOn : ℕ → Grid → Grid → ℕ → Type 0
NearOn s g g' n = On s (λ i j. Near (g i j) (g' i j) n)

-- ceil (n / 2)
abbrev pub ceil_half : ℕ → ℕ
ceil_half n = (n + 1) / 2

-- What one undone level adds to the error of a height, where every coefficient is off by at most e: half of e in the columns, then half of e and that in the rows.
abbrev pub growth : ℕ → ℕ
growth e = ceil_half e + ceil_half (e + ceil_half e)

-- The drift D(q): the growth at e = 2^q - 1, kept as a table for q from 0 to 15.
abbrev pub drifts : List ℕ
drifts = 0 ∷ 2 ∷ 5 ∷ 10 ∷ 20 ∷ 40 ∷ 80 ∷ 160 ∷ 320 ∷ 640 ∷ 1280 ∷ 2560 ∷ 5120 ∷ 10240 ∷ 20480 ∷ 40960 ∷ []

unfoldable pub drift_of : ℕ → ℕ
drift_of q = slice_index drifts q

-- The admitted error with q open planes and k levels.
unfoldable pub bound_of : ℕ → ℕ → ℕ
bound_of q k = 2 ^ q - 1 + k * drift_of q

-- A number that there is for q up to 15 only.
abbrev pub for_planes : ℕ → ℕ → Option ℕ
for_planes q n = cond (nat_lt q 16) (Some n) None

-- The table is the formula.
abbrev pub DriftIsGrowth : Type 0
DriftIsGrowth = (q : ℕ) → q < 16 → drift_of q ≡ growth (2 ^ q - 1)

-- Coefficients at most 2^q - 1 apart give maps at most e apart, on every side.
abbrev pub MapsNear : ℕ → ℕ → ℕ → Type 0
MapsNear q k e = (m : ℕ) (c c' : Grid) → NearOn (2 ^ m) c c' (2 ^ q - 1) → NearOn (2 ^ m) (undone m k c) (undone m k c') e

-- Coefficients at most 2^q - 1 from those of a map give its heights, at most e off.
abbrev pub HeightsNear : ℕ → ℕ → ℕ → Type 0
HeightsNear q k e = (m : ℕ) (g c : Grid) → NearOn (2 ^ m) (transform m k g) c (2 ^ q - 1) → NearOn (2 ^ m) g (undone m k c) e

-- What makes e an error to admit while q planes are open: it is true, it is 0 exactly when nothing is open, and it does not grow when a plane closes.
pub record Admitted (q k e : ℕ) : Type 0 where
  pub maps : MapsNear q k e
  pub heights : HeightsNear q k e
  pub exact : e ≡ 0 → q ≡ 0
  pub closed : q ≡ 0 → e ≡ 0
  pub falls : (q' : ℕ) → q' ≤ q → bound_of q' k ≤ e

-- What coefficients of 15 planes give by up to 6 levels fits 20 bits.
abbrev pub ReadingsSmall : Type 0
ReadingsSmall = (m k : ℕ) (c : Grid) → k ≤ 6 → BelowPlanes m c 15 → On (2 ^ m) (λ i j. unsigned_abs (undone m k c i j) ≤ 278527)
