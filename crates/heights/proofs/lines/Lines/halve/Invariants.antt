use Rattle.std.proofs.Common.{◌≡◌, ◌/◌, length}
use Rattle.transform.specs.Transform.{On, halved, in_rows}
use Rattle.heights.specs.Lines.{lines_of}
use Rattle.heights.proofs.lines.Lines.halve.Given as goal

abbrev pub invariant-loop-i : goal.invariant-loop-i
invariant-loop-i l = On l.self.side (λ i j. lines_of l.values l.self.across l.self.along i j ≡ in_rows l.i (halved (length l.initial.line / 2)) (lines_of l.initial.values l.self.across l.self.along) i j)
