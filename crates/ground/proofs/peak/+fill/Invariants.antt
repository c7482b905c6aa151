use Rattle.std.proofs.Common.{◌-◌}
use Rattle.ground.proofs.peak.+fill.Given as goal

abbrev pub decreases-fill : goal.decreases-fill
decreases-fill l = l.coefficients.now.shape.exponent - l.depth
