use Rattle.std.proofs.Common.{arith}
use borrow.Author.Differences.{ints}
use Rattle.std.proofs.lemmas.Int.{to_z-of_z}
use Rattle.heights.proofs.halving.unhalve.Goals as goal

pub overflow_sub-result : goal.overflow_sub-result
overflow_sub-result c = search (arith, ints)

pub returns-clause-first : goal.returns-clause-first
returns-clause-first c = grind (arith, to_z-of_z)

pub returns-clause-second : goal.returns-clause-second
returns-clause-second c = grind (arith, to_z-of_z)
