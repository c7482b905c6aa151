use Rattle.std.proofs.Common.{rules}
use Rattle.transform.specs.Errors.{drift_of}
use Rattle.transform.proofs.Errors.{drift_is_growth}
use Rattle.transform.proofs.drift.Goals as goal

pub returns-clause-value : goal.returns-clause-value
unfolding drift_of
returns-clause-value c = search rules

pub returns-clause-formula : goal.returns-clause-formula
returns-clause-formula c = drift_is_growth
