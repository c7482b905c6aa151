use Rattle.std.proofs.Common.{rules, arith}
use Rattle.std.proofs.lemmas.Grind.{common_steps}
use Rattle.speck.specs.Machine.{significant?, negative?, bit?}
use Rattle.speck.specs.Places.{placed}
use Rattle.walk.specs.Walks.{asks}
use Rattle.walk.proofs.History.{asks_on}
use Rattle.walk.proofs.Walk.question.Goals as goal

pub returns-in_err-part-clause-next : goal.returns-in_err-part-clause-next
returns-in_err-part-clause-next c = asks_on c.args.self.now (asks c.from_residual.result) (search rules)

pub returns-in-Part-clause-next : goal.returns-in-Part-clause-next
returns-in-Part-clause-next c = asks_on c.args.self.now (significant? c.args.self.now.lists.plane c.in-Part.part) (search rules)

pub returns-in-Part-2-clause-next : goal.returns-in-Part-2-clause-next
returns-in-Part-2-clause-next c = asks_on c.args.self.now (significant? c.args.self.now.lists.plane c.in-Part.part) (search rules)

pub returns-in-Sign-clause-next : goal.returns-in-Sign-clause-next
returns-in-Sign-clause-next c = asks_on c.args.self.now (negative? c.in-Sign.field-0.row c.in-Sign.field-0.column) (search rules)

pub returns-in-Refinement-clause-next : goal.returns-in-Refinement-clause-next
returns-in-Refinement-clause-next c = let f = c.index.result.now in asks_on c.args.self.now (bit? c.args.self.now.lists.plane (placed f.row f.column)) (grind (arith, common_steps))
