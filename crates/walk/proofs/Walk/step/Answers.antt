use Rattle.std.proofs.Common.{Ok, Err, rules, arith}
use Rattle.std.proofs.lemmas.Grind.{common_steps}
use Rattle.walk.specs.declared.asking.BitFault.TheVariants.{Contradiction}
use Rattle.walk.proofs.History.{judges}
use Rattle.walk.proofs.Walk.step.Goals as goal

pub returns-in_err-part-clause-judged : goal.returns-in_err-part-clause-judged
returns-in_err-part-clause-judged c = judges c.args.self.now c.args.self.now c.from_residual.result c.args.answer (search rules)

pub returns-in-Quarter-default-eq0-false-clause-judged :
    goal.returns-in-Quarter-default-eq0-false-clause-judged
returns-in-Quarter-default-eq0-false-clause-judged c = judges c.args.self.now c.args.self.now (Err Contradiction) c.args.answer (search rules)

pub returns-clause-judged : goal.returns-clause-judged
returns-clause-judged c = judges c.args.self.now _ (Ok tt) c.args.answer (grind (arith, common_steps))
