use Rattle.std.proofs.Common.{length, ap, arith}
use Rattle.walk.specs.Layout.{old_of, new_of}
use Rattle.walk.proofs.Planes.{drawn}
use Rattle.walk.proofs.Moves.{no_room, no_sound, owed_no}
use Rattle.walk.proofs.lists.Lists.pass_on.Goals as goal

pub push_reserved-requires : goal.push_reserved-requires
push_reserved-requires c = no_room c.args.self.now c.args.part c.requires.good.0.sorts.sound

pub returns : goal.returns
returns c =
    let l = c.args.self.now in
    let v = c.push_reserved.new.self in
    let h = c.requires.good.0 in
    let q = c.in_ok-part in
    let s = no_sound l c.args.part v h.sorts.sound h.within c.push_reserved.ensures.items c.push_reserved.ensures.capacity in
    record {
      state = owed_no l.plane c.args.part q.part c.args.left l.pending.parts c.draw.new.self.parts l.waiting.items v.items (old_of l) (new_of l) c.requires.some (ap (λ s. s.parts) q.ensures) c.push_reserved.ensures.items;
      good = (drawn (record l { waiting = v }) q.part c.draw.new.self s h.sorts.at q.ensures, omega (arith, c.requires.good.1, ap (λ s. length s.parts) q.ensures));
    }
