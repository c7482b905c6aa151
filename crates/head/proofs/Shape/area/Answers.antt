use Rattle.head.proofs.Squares.{area}
use Rattle.head.proofs.Shape.area.Goals as goal

pub returns-clause-value : goal.returns-clause-value
returns-clause-value c = rw (c.side.ensures.value, c.side-2.ensures.value) (area c.args.self.now.exponent)
