use Rattle.std.proofs.Common.{◌↔◌, IsTrue, sym, ap, ◌∙◌, subst, arith}
use Rattle.std.proofs.lemmas.Nat.{one_shl}
use Rattle.ground.specs.Tells.{RestTells}
use Rattle.ground.proofs.Parts.{same_yes}
use Rattle.ground.proofs.Looks.{block_tells_exactly, rest_part_exactly}
use Rattle.speck.specs.Grid.{significant}
use Rattle.speck.specs.Laws.{InPlace}
use Rattle.sender.proofs.asking.significant.Goals as goal

pub returns-in-Block : goal.returns-in-Block
returns-in-Block g c =
    let h = g.G.Ground.headed c.args.ground.now in
    let d = g.G.Ground.grid c.args.ground.now in
    let b = c.in-Block in
    let p = subst (InPlace h.shape.exponent) b.is c.requires.place in
    same_yes _ _ _ (rw (c.into-row.ensures, c.into-column.ensures) at c.block_reaches.ensures) (block_tells_exactly h.shape.exponent d c.args.plane b.side b.row b.column p c.requires.plane) ∙ ap (significant d c.args.plane) (sym b.is)

pub returns-in-Rest : goal.returns-in-Rest
returns-in-Rest g c =
    let h = g.G.Ground.headed c.args.ground.now in
    let d = g.G.Ground.grid c.args.ground.now in
    let b = c.in-Rest in
    let p = subst (InPlace h.shape.exponent) b.is c.requires.place in
    let w = one_shl b.side 64 (omega (arith, h.shape.small)) in
    same_yes _ _ _ (subst (λ v. IsTrue c.rest_reaches.result ↔ RestTells h.shape.exponent d v c.args.plane) w c.rest_reaches.ensures) (rest_part_exactly h.shape.exponent d c.args.plane b.deeper b.side p c.requires.plane) ∙ ap (significant d c.args.plane) (sym b.is)
