use Rattle.std.proofs.Common.{arith}
use Rattle.std.proofs.lemmas.Int.{to_z-of_z}
use Rattle.transform.specs.Transform.{one_of}
use Rattle.heights.proofs.undoing.one_of.Goals as goal

pub returns-then-place-eq0-clause-value : goal.returns-then-place-eq0-clause-value
unfolding one_of
returns-then-place-eq0-clause-value c = grind (arith, to_z-of_z)

pub returns-else-place-eq0-clause-value : goal.returns-else-place-eq0-clause-value
unfolding one_of
returns-else-place-eq0-clause-value c = grind (arith, to_z-of_z)
