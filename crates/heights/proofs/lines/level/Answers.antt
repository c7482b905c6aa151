use Rattle.std.proofs.Common.{arith}
use Rattle.head.proofs.Squares.{area}
use Rattle.heights.proofs.Strides.{rows_apart, columns_apart, rows_within, columns_within, columns_fit, level_made}
use Rattle.heights.proofs.lines.level.Goals as goal

pub invariant_of-rows : goal.invariant_of-rows
invariant_of-rows c = record { few = c.side-side.ensures.small; some = omega arith; apart = rows_apart _; within = rows_within _ }

pub halve-requires-clause-whole : goal.halve-requires-clause-whole
halve-requires-clause-whole c = grind (arith, area)

pub invariant_of-columns : goal.invariant_of-columns
invariant_of-columns c = record { few = c.side-side.ensures.small; some = c.side-side.ensures.some; apart = columns_apart _; within = columns_within _ }

pub halve-requires-2-clause-whole : goal.halve-requires-2-clause-whole
halve-requires-2-clause-whole c = grind (arith, area)

pub halve-requires-2-clause-small : goal.halve-requires-2-clause-small
halve-requires-2-clause-small c = rw c.side-side.ensures.value (columns_fit c.args.shape.exponent _ _ _ c.requires.pairs c.requires.inner c.requires.small (rw c.side-side.ensures.value at c.halve.ensures))

pub returns : goal.returns
returns c =
    let rows = rw c.side-side.ensures.value at c.halve.ensures in
    let columns = rw (c.side-side.ensures.value, c.halve.auto.line) at c.halve-2.ensures in
    level_made c.args.shape.exponent _ _ _ _ c.requires.pairs c.requires.inner rows columns
