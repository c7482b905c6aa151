use Rattle.std.proofs.Common.{◌≡◌, ◌++◌, length, ap, ◌∙◌, append-nil, arith}
use Rattle.std.proofs.lemmas.Iterator.Adapters.{YieldsList-from_once}
use mir.Val.{bool_byte}
use Rattle.speck.specs.Grid.{outside}
use Rattle.speck.specs.Machine.{going}
use Rattle.walk.specs.Layout.{cells_of}
use Rattle.walk.proofs.Piles.{chain_room, chain_laid, reverse-option, length-option}
use Rattle.walk.proofs.Planes.{first_state, first_sound, first_within, first_room}
use Rattle.walk.proofs.lists.Lists.ask_first.Goals as goal

pub put_all-requires-clause-room : goal.put_all-requires-clause-room
put_all-requires-clause-room c =
    let o = c.requires.opened in
    chain_room c.args.self.now.pending (outside c.args.levels c.args.side) (YieldsList-from_once c.outside-rest.result c.into_iter.ensures.into_iter_gives.0) (reverse-option _ _ c.outside-rest.ensures) (omega (arith, ap length o.todo, first_room c.args.levels c.args.side, o.room.pending))

pub returns : goal.returns
returns c =
    let l = c.args.self.now in
    let o = c.requires.opened in
    let q = c.put_all.new.self in
    let e = chain_laid l.pending q (outside c.args.levels c.args.side) (YieldsList-from_once c.outside-rest.result c.into_iter.ensures.into_iter_gives.0) (reverse-option _ _ c.outside-rest.ensures) c.put_all.ensures in
    let t : q.parts ≡ outside c.args.levels c.args.side = ap (λ s. s.parts) e ∙ ap (λ q. outside c.args.levels c.args.side ++ q) o.todo ∙ append-nil _ in
    let n = length-option c.outside-rest.result (outside c.args.levels c.args.side) c.from.result c.outside-rest.ensures (c.from.ensures ∙ ap bool_byte c.is_some.ensures) in
    record {
      state = ap going (first_state c.args.side c.args.levels l.plane c.from.result l.kept q.parts l.waiting.items (cells_of l) t o.noes o.cells o.kept n);
      good = (record { sorts = record { sound = first_sound l c.args.side c.args.levels l.plane q o c.requires.plane c.requires.side t (ap (λ s. s.room) e); at = o.at }; within = first_within c.args.side c.args.levels c.requires.side }, omega (arith, ap length t, n));
    }
