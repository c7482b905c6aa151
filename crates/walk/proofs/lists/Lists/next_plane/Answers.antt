use Rattle.std.proofs.Common.{◌≡◌, ◌-◌, ◌<◌, Bool, true, false, Some, None, [], length, sym, refl, ap, ◌∙◌, arith}
use Rattle.std.proofs.lemmas.Bool.{ltb-true, ltb-false}
use Rattle.std.proofs.lemmas.List.{length-map}
use Rattle.std.proofs.Math.Dec.{ltb}
use Rattle.std.specs.Bool.{then_some}
use Rattle.speck.specs.Machine.{Next, going}
use Rattle.speck.specs.Survey.{arranged}
use Rattle.walk.specs.declared.asking.Asking.TheVariants.{Refinement}
use Rattle.walk.specs.declared.lists.Lists.{Lists}
use Rattle.walk.specs.Layout.{Now, cells_of, found_of}
use Rattle.walk.specs.Piles.{laid}
use Rattle.walk.proofs.Facts.{length_areas}
use Rattle.walk.proofs.Planes.{fresh, drawn, gathered, enter_part, enter_bit, enter_end, enter_zero}
use Rattle.walk.proofs.lists.Lists.next_plane.Goals as goal

pub returns-in_err-self : goal.returns-in_err-self
returns-in_err-self c =
    let l = c.args.self.now in
    rw c.from_residual.ensures (record { state = ap going (enter_zero l.plane l.waiting.items (cells_of l) (omega (arith, c.in_err-self.ensures))); good = tt })

pub gather-requires-clause-room : goal.gather-requires-clause-room
gather-requires-clause-room c = omega (arith, ap length c.requires.none, ap length c.as_slice.ensures.value, length_areas c.args.self.now.waiting.items, c.requires.sound.room.pending)

pub returns-in-Some : goal.returns-in-Some
returns-in-Some c =
    let l = c.args.self.now in
    let q = c.gather.new.self in
    let g : q ≡ laid (arranged l.waiting.items) l.pending = c.gather.ensures ∙ ap (λ w. laid (arranged w) l.pending) c.as_slice.ensures.value in
    let k : c.len-self.result ≡ length (cells_of l) = c.len-self.ensures ∙ l.found.ok.0 ∙ sym (length-map l.found.items found_of) in
    let n = c.in_ok-self.ensures in
    let s = fresh l q c.clear.new.self c.len-self.result c.requires.sound c.requires.at (omega arith) c.requires.none g c.clear.ensures.items c.clear.ensures.capacity k in
    let d = drawn (record { plane = l.plane - 1; pending = q; waiting = c.clear.new.self; found = l.found; kept = c.len-self.result; at = 0 }) c.in-Some.part c.draw.new.self s refl c.in-Some.ensures in
    rw n.1 (record { state = ap going (enter_part l.plane c.in-Some.part c.draw.new.self.parts l.waiting.items c.clear.new.self.items (cells_of l) c.len-self.result (omega arith) (sym (gathered l.waiting.items l.pending q c.requires.none g) ∙ ap (λ s. s.parts) c.in-Some.ensures) c.clear.ensures.items k); good = d })

-- with no part to ask, a bit of a found cell is next, if there is one
late : (l : Lists) (n : Next) (b : Bool) → ltb 0 l.kept ≡ b → (0 < l.kept → Now (Some Refinement) l n) → (l.kept ≡ 0 → Now None l n) → Now (then_some b Refinement) l n
late l n true e f g = f (ltb-true 0 l.kept e)
late l n false e f g = let h = ltb-false 0 l.kept e in g (omega arith)

pub returns-in-None : goal.returns-in-None
returns-in-None c =
    let l = c.args.self.now in
    let q = c.gather.new.self in
    let g : q ≡ laid (arranged l.waiting.items) l.pending = c.gather.ensures ∙ ap (λ w. laid (arranged w) l.pending) c.as_slice.ensures.value in
    let k : c.len-self.result ≡ length (cells_of l) = c.len-self.ensures ∙ l.found.ok.0 ∙ sym (length-map l.found.items found_of) in
    let a : arranged l.waiting.items ≡ [] = sym (gathered l.waiting.items l.pending q c.requires.none g) ∙ c.in-None.ensures.0 in
    let s = fresh l c.draw.new.self c.clear.new.self c.len-self.result c.requires.sound c.requires.at (omega (arith, c.in_ok-self.ensures)) c.requires.none (c.in-None.ensures.1 ∙ g) c.clear.ensures.items c.clear.ensures.capacity k in
    rw (c.then_some.ensures, c.in_ok-self.ensures.1) (late (record { plane = l.plane - 1; pending = c.draw.new.self; waiting = c.clear.new.self; found = l.found; kept = c.len-self.result; at = 0 }) _ _ refl
    (λ h. record { state = ap going (enter_bit l.plane l.waiting.items c.clear.new.self.items (cells_of l) c.len-self.result (omega (arith, c.in_ok-self.ensures)) a c.clear.ensures.items k h); good = record { sound = s; none = ap (λ x. length x.parts) c.in-None.ensures.1 ∙ ap length c.in-None.ensures.0; at = h } })
    (λ h. record { state = ap going (enter_end l.plane l.waiting.items c.clear.new.self.items (cells_of l) a c.clear.ensures.items (sym k ∙ h)); good = tt }))
