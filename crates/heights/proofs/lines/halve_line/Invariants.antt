use Rattle.std.proofs.Common.{◌≡◌, ℕ, ◌<◌, get_or, length, pos}
use Rattle.heights.specs.Lines.{strided}
use Rattle.heights.proofs.Strides.{Paired}
use Rattle.heights.proofs.lines.halve_line.Given as goal

abbrev pub invariant-loop-t : goal.invariant-loop-t
invariant-loop-t l = (k : ℕ) → k < l.t → get_or l.line k (pos 0) ≡ strided l.values l.stride k

abbrev pub invariant-loop-p : goal.invariant-loop-p
invariant-loop-p l = Paired l.initial.values l.stride (length l.pairs) l.p l.values
