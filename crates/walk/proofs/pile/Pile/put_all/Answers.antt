use Rattle.std.proofs.Common.{[], ◌∷◌, ◌++◌, arith, length-append}
use Rattle.std.proofs.lemmas.List.{length_push, length-reverse}
use Rattle.std.proofs.iter.Next.{Yields-more}
use Rattle.walk.proofs.pile.Pile.put_all.Goals as goal

pub put-requires : goal.put-requires
put-requires g c =
    let so_far = c.loop-part.yielded in
    let room = c.requires.room (so_far ++ c.in-Some.part ∷ []) c.next.new.self (Yields-more g.I.Iterator.next_gives c.args.parts so_far c.loop-part.part-iterator c.in-Some.part c.next.new.self (rw c.into_iter-part-iterator.ensures.into_iter_gives at c.loop-part.yielded_by) c.in-Some.ensures.steps) in
    rw c.loop-part.invariant (simp (length-append, length-reverse) (omega (arith, length_push so_far c.in-Some.part)))
