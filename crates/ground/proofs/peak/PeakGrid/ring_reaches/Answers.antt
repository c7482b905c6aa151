use Rattle.std.proofs.Common.{ap, ◌∙◌, arith}
use Rattle.head.specs.declared.Head.{Head}
use Rattle.head.specs.declared.Shape.{Shape}
use Rattle.ground.proofs.Looks.{ring_tree}
use Rattle.ground.proofs.peak.PeakGrid.ring_reaches.Goals as goal

pub invariant_of-beside : goal.invariant_of-beside
invariant_of-beside c =
    let e = c.exponent.ensures ∙ ap (λ (s : Shape). s.exponent) c.shape.ensures ∙ ap (λ (h : Head). h.shape.exponent) c.head.ensures in
    let t = ring_tree c.exponent.result c.args.side 0 1 (omega arith) (omega arith) (omega arith) in
    record { deep = omega (arith, c.args.self.now.bare.head.shape.small); row_in = t.row; column_in = t.column }
