use Rattle.std.proofs.Common.{arith}
use Rattle.head.proofs.Squares.{side_small}
use Rattle.head.proofs.Shape.side.Goals as goal

pub returns-clause-small : goal.returns-clause-small
returns-clause-small c = omega (arith, side_small c.args.self.now.exponent c.args.self.now.small)
