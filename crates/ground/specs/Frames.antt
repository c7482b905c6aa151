use Rattle.std.specs.Prelude.{◌≡◌, ◌^◌}
use Rattle.frame.specs.Frames.{ClosedFrame}
use Rattle.head.specs.declared.Head.{Head}
use Rattle.heights.specs.Coefficients.{map_of}
use Rattle.transform.specs.Transform.{Grid, On, transform}

-- The ground of a frame has the frame's shape, and its grid is the transform of the frame's heights by its levels.
pub record GroundOf (f : ClosedFrame) (h : Head) (g : Grid) : Type 0 where
  pub shape : h.shape ≡ f.shape
  pub transformed : On (2 ^ f.shape.exponent) (λ i j. g i j ≡ transform f.shape.exponent f.shape.levels (map_of f) i j)
