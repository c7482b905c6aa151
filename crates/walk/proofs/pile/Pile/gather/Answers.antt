use Rattle.std.proofs.Common.{◌-◌, ap, ◌∙◌, rules, arith, tests, length-append}
use Rattle.speck.specs.Survey.{is_rest, has_side, rests, of_side}
use Rattle.walk.specs.Piles.{laid}
use Rattle.walk.proofs.Piles.{chain_room, chain_laid, laid_twice, reverse-filter, sifted}
use Rattle.walk.proofs.Tiers.{whole, tier_room, tier_more, tier_all}
use Rattle.walk.proofs.pile.Pile.gather.Goals as goal

pub put_all-requires-clause-room : goal.put_all-requires-clause-room
put_all-requires-clause-room c =
    chain_room c.args.self.now (rests c.args.parts.now) (sifted _ is_rest c.args.parts.now c.copied.ensures.source c.filter.ensures.source (cc) c.filter.ensures.closure (λ x b q k. search (rules, tests))) (reverse-filter is_rest c.args.parts.now) (omega (arith, whole c.args.parts.now c.requires.within))

pub loop-side-init : goal.loop-side-init
loop-side-init c =
    (omega arith, chain_laid c.args.self.now c.put_all.new.self (rests c.args.parts.now) (sifted _ is_rest c.args.parts.now c.copied.ensures.source c.filter.ensures.source (cc) c.filter.ensures.closure (λ x b q k. search (rules, tests))) (reverse-filter is_rest c.args.parts.now) c.put_all.ensures)

pub put_all-requires-in-loop-side-clause-room : goal.put_all-requires-in-loop-side-clause-room
put_all-requires-in-loop-side-clause-room c =
    let side = c.loop-side.side-counter - 1 in
    chain_room c.loop-side.self (of_side side c.args.parts.now) (sifted _ (has_side side) c.args.parts.now c.copied-in-loop-side.ensures.source c.filter-in-loop-side.ensures.source (cc) c.filter-in-loop-side.ensures.closure (λ x b q k. search (rules, tests))) (reverse-filter (has_side side) c.args.parts.now) (rw c.loop-side.invariant.1 (simp length-append (omega (arith, simp length-append at (tier_room c.loop-side.side-counter c.args.parts.now c.loop-side-test.true c.loop-side.invariant.0 c.requires.within)))))

pub loop-side-preserved : goal.loop-side-preserved
loop-side-preserved c =
    let side = c.loop-side.side-counter - 1 in
    (omega (arith, c.loop-side.invariant.0), chain_laid c.loop-side.self c.put_all-in-loop-side.new.self (of_side side c.args.parts.now) (sifted _ (has_side side) c.args.parts.now c.copied-in-loop-side.ensures.source c.filter-in-loop-side.ensures.source (cc) c.filter-in-loop-side.ensures.closure (λ x b q k. search (rules, tests))) (reverse-filter (has_side side) c.args.parts.now) c.put_all-in-loop-side.ensures ∙ ap (laid (of_side side c.args.parts.now)) c.loop-side.invariant.1 ∙ laid_twice _ _ c.args.self.now ∙ ap (λ t. laid t c.args.self.now) (tier_more c.loop-side.side-counter c.args.parts.now c.loop-side-test.true c.loop-side.invariant.0))

pub returns : goal.returns
returns c = c.loop-side.invariant.1 ∙ ap (λ t. laid t c.args.self.now) (tier_all c.loop-side.side-counter c.args.parts.now (omega arith) c.requires.within)
