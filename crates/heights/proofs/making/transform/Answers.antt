use Rattle.std.proofs.Common.{refl, arith}
use Rattle.std.proofs.lemmas.Grind.{common_steps}
use Rattle.std.proofs.lemmas.Nat.{shr_le}
use Rattle.transform.specs.Transform.{transform}
use Rattle.transform.proofs.Planes.{fifteen_planes}
use Rattle.heights.proofs.Sides.{side_even}
use Rattle.heights.proofs.Turns.{level_more}
use Rattle.heights.proofs.making.transform.Goals as goal

pub loop-t-init : goal.loop-t-init
unfolding transform
loop-t-init c = record { room = refl; so_far = λ i j p q. refl }

pub level-requires-clause-pairs : goal.level-requires-clause-pairs
level-requires-clause-pairs c = grind (arith, common_steps, side_even, shr_le)

pub level-requires-clause-small : goal.level-requires-clause-small
level-requires-clause-small c = λ i j p q. rw (c.loop-t.invariant.so_far i j p q) (fifteen_planes _ _ _ c.requires.span i j p q)

pub loop-t-preserved : goal.loop-t-preserved
loop-t-preserved c = record { room = grind (arith, common_steps); so_far = level_more c.args.shape.exponent c.loop-t.t _ _ _ _ (grind (arith, common_steps, shr_le)) c.loop-t.invariant.so_far c.level.ensures }
