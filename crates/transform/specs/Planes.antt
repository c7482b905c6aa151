use Rattle.std.specs.Prelude.{ℕ, ◌^◌, ◌<◌, ◌≤◌, ℤ, pos, negsuc, ◌≤ℤ◌, unsigned_abs}
use Rattle.transform.specs.Transform.{Grid, On, transform}

-- the heights that a map may have, in centimetres: -8192 to 8191
abbrev pub Span : ℤ → Type 0
Span z = (negsuc 8191 ≤ℤ z) × (z ≤ℤ pos 8191)

-- All magnitudes on the square of side 2^m are below 2^p.
abbrev pub BelowPlanes : ℕ → Grid → ℕ → Type 0
BelowPlanes m g p = On (2 ^ m) (λ i j. unsigned_abs (g i j) < 2 ^ p)

-- P is the least such p: the number of bit planes of the grid.
pub record PlaneCount (m : ℕ) (g : Grid) (P : ℕ) : Type 0 where
  pub enough : BelowPlanes m g P
  pub least : (p : ℕ) → BelowPlanes m g p → P ≤ p

-- The coefficients of any heights have at most 15 planes.
abbrev pub FifteenPlanes : Type 0
FifteenPlanes = (m k : ℕ) (g : Grid) → On (2 ^ m) (λ i j. Span (g i j)) → BelowPlanes m (transform m k g) 15
