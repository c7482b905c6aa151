use Rattle.std.proofs.Common.{rules}
use Rattle.walk.proofs.History.{opens}
use Rattle.walk.proofs.Walk.open.Goals as goal

pub returns-clause-follows : goal.returns-clause-follows
returns-clause-follows c = opens _ _ _ _ (search rules)
