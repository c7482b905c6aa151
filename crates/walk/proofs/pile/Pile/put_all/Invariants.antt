use Rattle.std.proofs.Common.{◌≡◌, reverse}
use Rattle.walk.specs.Piles.{laid}
use Rattle.walk.proofs.pile.Pile.put_all.Given as goal

abbrev pub invariant-loop-part : goal.invariant-loop-part
invariant-loop-part g l = l.self ≡ laid (reverse l.yielded) l.initial.self
