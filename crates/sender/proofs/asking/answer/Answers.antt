use Rattle.std.proofs.Common.{Some, sym, ap, ◌∙◌, subst, arith}
use Rattle.speck.specs.Laws.{AboutGrid}
use Rattle.walk.specs.Walks.{asks}
use Rattle.sender.specs.Asked.{told}
use Rattle.sender.proofs.Heads.{bit_told_is}
use Rattle.sender.proofs.asking.answer.Goals as goal

pub returns-in-Bit : goal.returns-in-Bit
returns-in-Bit g c =
    let h = g.G.Ground.headed c.args.ground.now in
    let d = g.G.Ground.grid c.args.ground.now in
    let b = c.in-Bit in
    let a = subst (λ q. AboutGrid h.shape.exponent h.planes (asks (Some q))) b.is c.requires in
    ap Some ((rw (c.into-in-Bit.ensures, c.into-in-Bit-2.ensures) at c.has_bit.ensures) ∙ bit_told_is h.shape.exponent d b.row b.column b.plane a.1 (omega (arith, a.0, h.few))) ∙ sym (ap (λ q. told d (asks (Some q))) b.is)
