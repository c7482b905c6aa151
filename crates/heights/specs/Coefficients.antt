use Rattle.std.specs.Prelude.{◌≡◌, ℕ, ◌^◌, ◌<◌, ◌≤◌, List, length, ℤ, pos, vec_items, slice_index_or, unsigned_abs}
use Rattle.frame.specs.Frames.{ClosedFrame, heights_of}
use Rattle.transform.specs.Transform.{Grid, On, grid_of, transform, undone}
use Rattle.heights.specs.declared.Coefficients.{Coefficients}

-- the grid that coefficients are
abbrev pub coefficients_of : Coefficients → Grid
coefficients_of c = grid_of c.shape.exponent (vec_items c.values)

-- the map that a closed frame is
abbrev pub map_of : ClosedFrame → Grid
map_of f = heights_of f.shape.exponent (vec_items f.cells)

-- The coefficients of a frame are the transform of its heights by its levels, and undoing them gives the heights.
pub record Transformed (f : ClosedFrame) (c : Coefficients) : Type 0 where
  pub shape : c.shape ≡ f.shape
  pub defined : On (2 ^ f.shape.exponent) (λ i j. coefficients_of c i j ≡ transform f.shape.exponent f.shape.levels (map_of f) i j)
  pub back : On (2 ^ f.shape.exponent) (λ i j. undone f.shape.exponent f.shape.levels (coefficients_of c) i j ≡ map_of f i j)

-- t is the largest magnitude in the list, 0 in an empty one: no other number that bounds them all is smaller.
pub record Top (xs : List ℤ) (t : ℕ) : Type 0 where
  pub bounds : (p : ℕ) → p < length xs → unsigned_abs (slice_index_or xs p (pos 0)) ≤ t
  pub least : (n : ℕ) → ((p : ℕ) → p < length xs → unsigned_abs (slice_index_or xs p (pos 0)) ≤ n) → t ≤ n
