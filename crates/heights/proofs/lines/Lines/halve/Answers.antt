use Rattle.std.proofs.Common.{length, arith}
use Rattle.heights.specs.Lines.{lines_of}
use Rattle.heights.proofs.Strides.{lines_more}
use Rattle.heights.proofs.lines.Lines.halve.Goals as goal

pub loop-i-preserved : goal.loop-i-preserved
loop-i-preserved c =
    let s = c.args.self in
    lines_more c.loop-i.values c.halve_line.new.values (lines_of c.args.values.now s.across s.along) s.side s.across s.along (length c.args.line.now) c.loop-i.i
    (omega arith) c.requires.inner (omega arith) s.apart s.within (omega arith) c.loop-i.invariant (rw c.loop-i.auto.line at c.halve_line.ensures.line) (rw c.loop-i.auto.line at c.halve_line.ensures.rest)
