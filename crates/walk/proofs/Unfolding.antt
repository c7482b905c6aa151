-- What it takes to unfold a part: its own parts go on the pile.
use Rattle.std.proofs.Common.{◌≡◌, ℕ, List, ◌++◌, length, take, drop, Some, true, sym, refl, ap, ◌∙◌, arith, length-append}
use Rattle.std.proofs.lemmas.List.{take_at, drop_at}
use Rattle.speck.specs.declared.Part.{Part as Set}
use Rattle.walk.specs.declared.asking.Asking.TheVariants.{Part, Quarter}
use Rattle.walk.specs.declared.lists.Lists.{Lists}
use Rattle.speck.specs.Machine.{going, owing, unfolded}
use Rattle.speck.specs.Places.{place_step}
use Rattle.speck.proofs.Lists.{each_append}
use Rattle.std.proofs.lemmas.List.Sums.{sum_by-append}
use Rattle.walk.specs.Parts.{Within, area}
use Rattle.walk.specs.Piles.{Stack, HasRoom, laid}
use Rattle.walk.specs.Layout.{Sound, Held, Now, todo_of, noes_of, old_of, new_of, state_in}
use Rattle.walk.proofs.Facts.{Spreads, area_pos, length_areas}

spread_sound : (l : Lists) (p a : Set) (ks : List Set) → Spreads p a ks → Sound (area p) l → Sound (area a) (record l { pending = laid ks l.pending })
spread_sound l p a ks s h =
    let z = sum_by-append area ks (todo_of l) in
    record { plane = h.plane; pending = each_append Within ks (todo_of l) s.others h.pending; waiting = h.waiting; room = record { pending = omega (arith, s.size, h.room.pending); waiting = omega (arith, s.size, h.room.waiting); found = omega (arith, s.size, h.room.found) }; known = h.known; position = h.position }

-- the parts of p are on the pile
pub done : (l : Lists) (p a : Set) (ks : List Set) (left : ℕ) (q : Stack) → Spreads p a ks → Held p l → q ≡ laid ks l.pending → left ≡ length ks → Now (Some (Quarter a left)) (record l { pending = q }) (place_step (state_in (Some (Part p)) l) true)
done l p a ks left q s h e n =
    record {
      state = ap going (ap (λ t. owing l.plane a (take left t.parts) (drop left t.parts) (noes_of l) (old_of l) (new_of l)) e ∙ rw n (halves ks (todo_of l)) ∙ ap (λ v. unfolded l.plane v (todo_of l) (noes_of l) (old_of l) (new_of l)) (sym s.shown));
      good = (record { sorts = record { sound = rw e (spread_sound l p a ks s h.sorts.sound); at = h.sorts.at }; within = s.first }, rw (e, length-append) (omega arith));
    }
  where
    halves : (ks todo : List Set) → owing l.plane a (take (length ks) (ks ++ todo)) (drop (length ks) (ks ++ todo)) (noes_of l) (old_of l) (new_of l) ≡ owing l.plane a ks todo (noes_of l) (old_of l) (new_of l)
    halves ks todo = rw (take_at ks todo (length ks) refl, drop_at ks todo (length ks) refl)

pub room : (l : Lists) (p a : Set) (ks : List Set) → Spreads p a ks → Held p l → HasRoom (length ks) l.pending
room l p a ks s h = omega (arith, s.size, h.sorts.sound.room.pending, area_pos a, length_areas ks, length_areas (todo_of l))
