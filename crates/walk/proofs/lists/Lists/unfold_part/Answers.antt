use Rattle.std.proofs.Common.{◌+◌, ◌^◌, [], ◌∷◌, get_or, refl, ap, ◌∙◌, arith, length-append}
use Rattle.std.proofs.lemmas.Iterator.{YieldsList-from_slice}
use Rattle.std.proofs.lemmas.Iterator.Adapters.{YieldsList-from_once}
use Rattle.std.proofs.lemmas.Iterator.Consumers.{YieldsList-at, YieldsList-from_copied}
use mir.Val.{bool_byte}
use Rattle.speck.specs.declared.Part.TheVariants.{Block}
use Rattle.speck.specs.Grid.{outside}
use Rattle.walk.specs.Piles.{laid}
use Rattle.walk.proofs.Facts.{spread_block, spread_rest}
use Rattle.walk.proofs.Piles.{chain_room, chain_laid, laid_twice, reverse-option, length-option}
use Rattle.walk.proofs.Unfolding.{done, room}
use Rattle.walk.proofs.lists.Lists.unfold_part.Goals as goal

pub quarters-requires : goal.quarters-requires
quarters-requires c =
    let b = c.in-Block in
    (spread_block c.args.part b.side b.row b.column b.is (omega (arith, rw b.is at b.side-test.1)) c.requires.within).first

pub put_all-requires-clause-room : goal.put_all-requires-clause-room
put_all-requires-clause-room c =
    let b = c.in-Block in
    let s = spread_block c.args.part b.side b.row b.column b.is (omega (arith, rw b.is at b.side-test.1)) c.requires.within in
    chain_room c.args.self.now.pending _ (YieldsList-from_copied (YieldsList-at c.copied.ensures.source (YieldsList-from_slice _ c.iter.ensures.rest))) refl (room c.args.self.now _ _ _ s c.requires)

pub returns-in-Block : goal.returns-in-Block
returns-in-Block c =
    let l = c.args.self.now in
    let b = c.in-Block in
    let s = spread_block c.args.part b.side b.row b.column b.is (omega (arith, rw b.is at b.side-test.1)) c.requires.within in
    rw c.quarters.ensures (done l _ _ _ 3 c.put_all.new.self s c.requires (chain_laid l.pending c.put_all.new.self _ (YieldsList-from_copied (YieldsList-at c.copied.ensures.source (YieldsList-from_slice _ c.iter.ensures.rest))) (ap (λ q. get_or q 1 (Block 0 0 0) ∷ get_or q 2 (Block 0 0 0) ∷ get_or q 3 (Block 0 0 0) ∷ []) c.quarters.ensures) c.put_all.ensures) refl)

pub quarters-requires-in-Rest : goal.quarters-requires-in-Rest
quarters-requires-in-Rest c =
    let s = spread_rest c.args.part c.in-Rest.deeper c.in-Rest.side c.in-Rest.is c.requires.within in
    (s.first.0, omega (arith, s.first), omega (arith, s.first))

pub put_all-requires-in-Rest-clause-room : goal.put_all-requires-in-Rest-clause-room
put_all-requires-in-Rest-clause-room c =
    let s = spread_rest c.args.part c.in-Rest.deeper c.in-Rest.side c.in-Rest.is c.requires.within in
    chain_room c.args.self.now.pending _ (YieldsList-from_once c.outside-rest.result c.into_iter.ensures.into_iter_gives.0) (reverse-option _ _ c.outside-rest.ensures) (omega (arith, room c.args.self.now _ _ _ s c.requires))

pub put_all-requires-in-Rest-2-clause-room : goal.put_all-requires-in-Rest-2-clause-room
put_all-requires-in-Rest-2-clause-room c =
    let l = c.args.self.now in
    let s = spread_rest c.args.part c.in-Rest.deeper c.in-Rest.side c.in-Rest.is c.requires.within in
    let e = chain_laid l.pending c.put_all-in-Rest.new.self (outside c.in-Rest.deeper (c.in-Rest.side + 1)) (YieldsList-from_once c.outside-rest.result c.into_iter.ensures.into_iter_gives.0) (reverse-option _ _ c.outside-rest.ensures) c.put_all-in-Rest.ensures in
    chain_room c.put_all-in-Rest.new.self _ (YieldsList-from_copied (YieldsList-at c.copied-in-Rest.ensures.source (YieldsList-from_slice _ c.iter-in-Rest.ensures.rest))) (ap (λ q. get_or q 2 (Block 0 0 0) ∷ get_or q 3 (Block 0 0 0) ∷ []) c.quarters-in-Rest.ensures) (rw e (simp length-append (omega (arith, room l _ _ _ s c.requires))))

pub returns-in-Rest : goal.returns-in-Rest
returns-in-Rest c =
    let l = c.args.self.now in
    let s = spread_rest c.args.part c.in-Rest.deeper c.in-Rest.side c.in-Rest.is c.requires.within in
    let rest = outside c.in-Rest.deeper (c.in-Rest.side + 1) in
    let e = chain_laid l.pending c.put_all-in-Rest.new.self rest (YieldsList-from_once c.outside-rest.result c.into_iter.ensures.into_iter_gives.0) (reverse-option _ _ c.outside-rest.ensures) c.put_all-in-Rest.ensures in
    let n = length-option c.outside-rest.result rest c.from.result c.outside-rest.ensures (c.from.ensures ∙ ap bool_byte c.is_some.ensures) in
    let x = c.in-Rest.side in
    let ks = Block x (0 + 2 ^ x) 0 ∷ Block x (0 + 2 ^ x) (0 + 2 ^ x) ∷ [] in
    rw c.quarters-in-Rest.ensures (done l _ _ _ (2 + c.from.result) c.put_all-in-Rest-2.new.self s c.requires (chain_laid c.put_all-in-Rest.new.self c.put_all-in-Rest-2.new.self ks (YieldsList-from_copied (YieldsList-at c.copied-in-Rest.ensures.source (YieldsList-from_slice _ c.iter-in-Rest.ensures.rest))) (ap (λ q. get_or q 2 (Block 0 0 0) ∷ get_or q 3 (Block 0 0 0) ∷ []) c.quarters-in-Rest.ensures) c.put_all-in-Rest-2.ensures ∙ ap (laid ks) e ∙ laid_twice ks rest l.pending) (omega (arith, n)))
