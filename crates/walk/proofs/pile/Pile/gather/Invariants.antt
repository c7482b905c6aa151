use Rattle.std.proofs.Common.{◌≡◌, ◌-◌, ◌≤◌, ◌++◌}
use Rattle.speck.specs.Survey.{rests, tiers}
use Rattle.walk.specs.Piles.{laid}
use Rattle.walk.proofs.pile.Pile.gather.Given as goal

abbrev pub invariant-loop-side : goal.invariant-loop-side
invariant-loop-side l = (l.side-counter ≤ 7) × (l.self ≡ laid (tiers l.side-counter (7 - l.side-counter) l.parts ++ rests l.parts) l.fn.self)
