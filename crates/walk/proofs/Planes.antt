-- The first question of a plane.
use Rattle.std.proofs.Common.{◌≡◌, ℕ, zero, suc, ◌+◌, ◌-◌, ◌^◌, ◌<◌, ◌≤◌, List, [], ◌∷◌, ◌++◌, length, sum_by, get_or, take, drop, sym, refl, ap, ◌∙◌, append-nil, subst, add-one, arith, pow_mono}
use Rattle.std.proofs.lemmas.List.Sorted.{length_permutation, sum_by-IsPermutation}
use Rattle.std.proofs.lemmas.List.Sums.{sum_by-cons}
use Rattle.speck.specs.Grid.{outside}
use Rattle.speck.specs.declared.Part.TheVariants.{Block}
use Rattle.std.proofs.lemmas.List.{take_all, drop_all, nil_from_length}
use Rattle.speck.specs.declared.Part.{Part}
use Rattle.speck.specs.Survey.{Found}
use Rattle.speck.specs.Survey.{arranged}
use Rattle.speck.specs.Machine.{owing, asking, refinement, finished, enter_plane, go_on_by, start}
use Rattle.std.specs.Global.{Vec}
use Rattle.std.specs.List.{AllByRecursion}
use Rattle.walk.specs.Parts.{Within, area}
use Rattle.walk.specs.Piles.{Stack, laid}
use Rattle.walk.specs.declared.lists.Lists.{Lists}
use Rattle.walk.specs.Layout.{Sound, Held, Opened, blank, cells_of, noes_of, todo_of}
use Rattle.walk.proofs.Facts.{area_pos, length_areas, outside_all, outside_within}
use Rattle.speck.proofs.Lists.{arranged_moves, each_arranged}

pub gathered : (w : List Part) (old new : Stack) → old.parts ≡ [] → new ≡ laid (arranged w) old → new.parts ≡ arranged w
gathered w old new o t = ap (λ s. s.parts) t ∙ ap (λ l. arranged w ++ l) o ∙ append-nil (arranged w)

-- a plane ended: the next one's lists
pub fresh : (l : Lists) (q : Stack) (v : Vec Part) (kept : ℕ) → Sound 0 l → l.at ≡ l.kept → 0 < l.plane → todo_of l ≡ [] → q ≡ laid (arranged (noes_of l)) l.pending → v.items ≡ [] → v.cap ≡ l.waiting.cap → kept ≡ length (cells_of l) → Sound 0 (record { plane = l.plane - 1; pending = q; waiting = v; found = l.found; kept = kept; at = 0 })
fresh l q v kept s a h o t z f k =
    let w = noes_of l in
    let p : q.parts ≡ arranged w = gathered w l.pending q o t in
    let i : sum_by area q.parts ≡ sum_by area w = ap (sum_by area) p ∙ sum_by-IsPermutation area w (arranged w) (arranged_moves w) in
    let j : q.room ≡ l.pending.room = ap (λ x. x.room) t in
    let u : sum_by area v.items ≡ 0 = ap (sum_by area) z in
    record {
      plane = omega (arith, s.plane);
      pending = subst (AllByRecursion Within) (sym p) (each_arranged Within w s.waiting);
      waiting = subst (AllByRecursion Within) (sym z) tt;
      room = record { pending = omega (arith, s.room.pending); waiting = omega (arith, s.room.waiting); found = omega (arith, s.room.found) };
      known = omega arith;
      position = omega arith;
    }

pub drawn : (l : Lists) (p : Part) (q : Stack) → Sound 0 l → l.at ≡ 0 → l.pending ≡ laid (p ∷ []) q → Held p (record l { pending = q })
drawn l p q s a e =
    let c = sum_by-cons area p q.parts in
    let t : Sound 0 (record l { pending = laid (p ∷ []) q }) = subst (λ x. Sound 0 (record l { pending = x })) e s in
    record { sorts = record { sound = record { plane = t.plane; pending = t.pending.1; waiting = t.waiting; room = record { pending = omega (arith, t.room.pending); waiting = omega (arith, t.room.waiting); found = omega (arith, t.room.found) }; known = t.known; position = t.position }; at = a }; within = t.pending.0 }

-- what the machine asks then
pub enter_part : (n : ℕ) (p : Part) (todo w w' : List Part) (f : List Found) (kept : ℕ) → 0 < n → arranged w ≡ p ∷ todo → w' ≡ [] → kept ≡ length f → asking (n - 1) p todo w' (take kept f) (drop kept f) ≡ enter_plane n w f
unfolding enter_plane
enter_part n p todo w w' f kept h a z k =
    let e : n ≡ suc (n - 1) = omega arith in
    rw (z, take_all kept f (omega arith), drop_all kept f (omega arith)) (sym (ap (λ m. enter_plane m w f) e ∙ ap (λ t. go_on_by (enter_plane (n - 1)) (n - 1) t [] f []) a))

pub enter_bit : (n : ℕ) (w w' : List Part) (f : List Found) (kept : ℕ) → 0 < n → arranged w ≡ [] → w' ≡ [] → kept ≡ length f → 0 < kept → refinement (n - 1) (get_or f 0 blank) (drop 1 (take kept f)) [] w' (drop kept f) ≡ enter_plane n w f
unfolding enter_plane
enter_bit n w w' [] kept h a z k l = absurd (omega arith)
enter_bit n w w' (x ∷ f) kept h a z k l =
    let e : n ≡ suc (n - 1) = omega arith in
    rw (z, take_all kept (x ∷ f) (omega arith), drop_all kept (x ∷ f) (omega arith)) (sym (ap (λ m. enter_plane m w (x ∷ f)) e ∙ ap (λ t. go_on_by (enter_plane (n - 1)) (n - 1) t [] (x ∷ f) []) a))

enter_none : (n : ℕ) → enter_plane n [] [] ≡ finished [] []
unfolding enter_plane arranged
enter_none zero = refl
enter_none (suc n) = enter_none n

pub enter_end : (n : ℕ) (w w' : List Part) (f : List Found) → arranged w ≡ [] → w' ≡ [] → length f ≡ 0 → finished w' f ≡ enter_plane n w f
enter_end n w w' f a z k =
    let x : w ≡ [] = nil_from_length w (sym (length_permutation w (arranged w) (arranged_moves w)) ∙ ap length a) in
    let y : f ≡ [] = nil_from_length f k in
    rw (x, y, z) (sym (enter_none n))

pub enter_zero : (n : ℕ) (w : List Part) (f : List Found) → n ≡ 0 → finished w f ≡ enter_plane n w f
unfolding enter_plane
enter_zero n w f e = rw e refl

-- the first question of all
pub first_state : (x k n remaining kept : ℕ) (todo noes : List Part) (cells : List Found) → todo ≡ outside k x → noes ≡ [] → cells ≡ [] → kept ≡ 0 → remaining ≡ length (outside k x) → owing n (Block x 0 0) (take remaining todo) (drop remaining todo) noes (take kept cells) (drop kept cells) ≡ start x k (n + 1)
first_state x k n remaining kept todo noes cells e f g h i = rw (e, f, g, h, i, take_all (length (outside k x)) (outside k x) (omega arith), drop_all (length (outside k x)) (outside k x) (omega arith), add-one) refl

pub first_sound : (l : Lists) (x k n : ℕ) (q : Stack) → Opened (4 ^ (x + k)) n l → l.plane ≤ 14 → x + k ≤ 6 → q.parts ≡ outside k x → q.room ≡ l.pending.room → Sound (4 ^ x) (record l { pending = q })
first_sound l x k n q o h w t r =
    let a : 4 ^ x + sum_by area q.parts ≡ 4 ^ (x + k) = ap (λ ps. 4 ^ x + sum_by area ps) t ∙ outside_all k x in
    let b : sum_by area (noes_of l) ≡ 0 = ap (sum_by area) o.noes in
    let c : length (cells_of l) ≡ 0 = ap length o.cells in
    record { plane = h; pending = subst (AllByRecursion Within) (sym t) (outside_within k x w); waiting = subst (AllByRecursion Within) (sym o.noes) tt; room = record { pending = omega (arith, o.room.pending); waiting = omega (arith, o.room.waiting); found = omega (arith, o.room.found) }; known = omega (arith, o.kept); position = omega (arith, o.kept, o.at) }

pub first_within : (x k : ℕ) → x + k ≤ 6 → Within (Block x 0 0)
first_within x k h = let m : 2 ^ x ≤ 2 ^ 6 = pow_mono {i = x} {j = 6} (omega arith) in (omega arith, omega arith, omega arith)

-- there is room for what lies outside the corner
pub first_room : (d x : ℕ) → length (outside d x) < 4 ^ (x + d)
first_room d x = omega (arith, outside_all d x, length_areas (outside d x), area_pos (Block x 0 0))
