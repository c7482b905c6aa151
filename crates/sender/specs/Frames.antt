-- The survey of a closed frame.
use Rattle.std.specs.Prelude.{◌≡◌, ℕ, ◌-◌, Bool, List, take}
use Rattle.frame.specs.Frames.{ClosedFrame}
use Rattle.ground.specs.Frames.{GroundOf}
use Rattle.ground.specs.declared.bare.BareGrid.{BareGrid}
use Rattle.ground.specs.declared.peak.PeakGrid.{PeakGrid}
use Rattle.head.specs.declared.Head.{Head}
use Rattle.heights.specs.Coefficients.{coefficients_of, map_of}
use Rattle.speck.specs.Survey.{survey}
use Rattle.transform.specs.Planes.{PlaneCount}
use Rattle.transform.specs.Transform.{Grid, transform}
use Rattle.sender.specs.Sending.{survey_of}

-- the coefficients of a frame: the transform of its heights by its levels
abbrev pub transform_of : ClosedFrame → Grid
transform_of f = transform f.shape.exponent f.shape.levels (map_of f)

-- The survey of a frame is that of its coefficients, with the least number of planes that holds them.
pub record FrameSurvey (f : ClosedFrame) (bits : List Bool) : Type 0 where
  pub planes : ℕ
  pub counted : PlaneCount f.shape.exponent (transform_of f) planes
  pub surveyed : bits ≡ survey (f.shape.exponent - f.shape.levels) f.shape.levels planes (transform_of f)

-- a frame has one survey
abbrev pub OneSurvey : Type 0
OneSurvey = (f : ClosedFrame) → ((bits : List Bool) × FrameSurvey f bits) × ((bits bits' : List Bool) → FrameSurvey f bits → FrameSurvey f bits' → bits ≡ bits')

-- what has a head and a grid, of which the head counts the planes, has the survey of the frame whose ground it is
abbrev pub SendsFrame : Head → Grid → Type 0
SendsFrame h g = (f : ClosedFrame) → GroundOf f h g → FrameSurvey f (survey_of h g)

-- Whatever the bare grid and the peak grid of one frame are sent with, the bits are the same, those of the frame's survey; with a slot of 86101 bits they are all of them.
pub record Alike (f : ClosedFrame) (b : BareGrid) (p : PeakGrid) : Type 0 where
  pub bits : List Bool
  pub surveyed : FrameSurvey f bits
  pub bare : survey_of b.head (coefficients_of b.coefficients) ≡ bits
  pub peak : survey_of p.bare.head (coefficients_of p.bare.coefficients) ≡ bits
  pub whole : take 86101 bits ≡ bits

abbrev pub BothGroundsAlike : Type 0
BothGroundsAlike = (f : ClosedFrame) (b : BareGrid) (p : PeakGrid) → GroundOf f b.head (coefficients_of b.coefficients) → GroundOf f p.bare.head (coefficients_of p.bare.coefficients) → Alike f b p
