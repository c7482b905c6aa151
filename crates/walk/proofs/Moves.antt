-- What one answer does to the lists.
use Rattle.std.proofs.Common.{◌≡◌, ℕ, suc, ◌+◌, ◌-◌, ◌<◌, false, List, [], ◌∷◌, ◌++◌, sum_by, take, drop, sym, ap, ◌∙◌, subst, arith}
use Rattle.std.proofs.lemmas.List.Sums.{sum_by_push}
use Rattle.speck.specs.declared.Part.{Part}
use Rattle.speck.specs.Survey.{Found}
use Rattle.speck.specs.Machine.{owing, going}
use Rattle.speck.specs.Places.{place_step}
use Rattle.std.specs.Global.{Vec}
use Rattle.std.specs.List.{AllByRecursion}
use Rattle.speck.proofs.Lists.{each_append}
use Rattle.walk.specs.Parts.{Within, area}
use Rattle.walk.specs.declared.lists.Lists.{Lists}
use Rattle.walk.specs.Layout.{Sound, noes_of}
use Rattle.walk.proofs.Facts.{area_pos, length_areas}

-- a part said no
pub no_room : (l : Lists) (p : Part) → Sound (area p) l → l.waiting.len < l.waiting.cap
no_room l p s = omega (arith, area_pos p, length_areas (noes_of l), s.room.waiting, l.waiting.ok.0)

pub no_sound : (l : Lists) (p : Part) (v : Vec Part) → Sound (area p) l → Within p → v.items ≡ noes_of l ++ p ∷ [] → v.cap ≡ l.waiting.cap → Sound 0 (record l { waiting = v })
no_sound l p v s h e f =
    let a : sum_by area v.items ≡ sum_by area (noes_of l) + area p = ap (sum_by area) e ∙ sum_by_push area (noes_of l) p in
    record { plane = s.plane; pending = s.pending; waiting = subst (AllByRecursion Within) (sym e) (each_append Within (noes_of l) (p ∷ []) s.waiting (h, tt)); room = record { pending = omega (arith, s.room.pending); waiting = omega (arith, s.room.waiting); found = omega (arith, s.room.found) }; known = s.known; position = s.position }

pub owed_no : (n : ℕ) (p p₁ : Part) (remaining : ℕ) (todo todo' w w' : List Part) (old new : List Found) → 0 < remaining → todo ≡ p₁ ∷ todo' → w' ≡ w ++ p ∷ [] → going (owing n p₁ (take (remaining - 1) todo') (drop (remaining - 1) todo') w' old new) ≡ place_step (owing n p (take remaining todo) (drop remaining todo) w old new) false
owed_no n p p₁ remaining todo todo' w w' old new h q e =
    let j : remaining ≡ suc (remaining - 1) = omega arith in
    ap (λ v. going (owing n p₁ (take (remaining - 1) todo') (drop (remaining - 1) todo') v old new)) e ∙ sym (ap (λ i. place_step (owing n p (take i todo) (drop i todo) w old new) false) j ∙ ap (λ t. place_step (owing n p (take (suc (remaining - 1)) t) (drop (suc (remaining - 1)) t) w old new) false) q)
