-- Without values the machine goes the same way.
use Rattle.std.proofs.Common.{◌≡◌, ℕ, zero, suc, Bool, true, false, List, [], ◌∷◌, ◌++◌, map, refl, ap, ◌∙◌}
use Rattle.std.proofs.lemmas.List.{map-append}
use Rattle.speck.specs.declared.Part.{Part}
use Rattle.speck.specs.Grid.{Grid, View, cell, parts, view}
use Rattle.speck.specs.Survey.{Found, arranged, refined}
use Rattle.speck.specs.Machine.{State, answer, ask, owing, asking, sign, refinement, finished, refine_on_by, go_on_by, enter_plane, go_on, refine_on, unfolded, step, noted, going}
use Rattle.speck.specs.Places.{bare_cell, bare, bare_next, place_step, PlacesSuffice}

refine_bare : (n : ℕ) (k : List Part → List Found → State) → ((w : List Part) (f : List Found) → bare (k w f) ≡ k w (map bare_cell f)) → (todo done : List Found) (noes : List Part) (new : List Found) → bare (refine_on_by k n todo done noes new) ≡ refine_on_by k n (map bare_cell todo) (map bare_cell done) noes (map bare_cell new)
refine_bare n k h [] done noes new = h noes (done ++ new) ∙ ap (k noes) (map-append bare_cell done new)
refine_bare n k h (e ∷ todo) done noes new = refl

go_bare : (n : ℕ) (k : List Part → List Found → State) → ((w : List Part) (f : List Found) → bare (k w f) ≡ k w (map bare_cell f)) → (free noes : List Part) (old new : List Found) → bare (go_on_by k n free noes old new) ≡ go_on_by k n free noes (map bare_cell old) (map bare_cell new)
go_bare n k h [] noes old new = refine_bare n k h old [] noes new
go_bare n k h (p ∷ free) noes old new = refl

enter_bare : (n : ℕ) (w : List Part) (f : List Found) → bare (enter_plane n w f) ≡ enter_plane n w (map bare_cell f)
unfolding enter_plane
enter_bare zero w f = refl
enter_bare (suc n) w f = go_bare n (enter_plane n) (enter_bare n) (arranged w) [] f []

unfold_bare : (n : ℕ) (v : View) (free noes : List Part) (old new : List Found) → bare (unfolded n v free noes old new) ≡ unfolded n v free noes (map bare_cell old) (map bare_cell new)
unfold_bare n (cell r c) free noes old new = refl
unfold_bare n (parts k ks) free noes old new = refl

step_bare : (s : State) (b : Bool) → bare_next (step s b) ≡ place_step (bare s) b
step_bare (owing n p ps free noes old new) true = ap going (unfold_bare n (view p) (ps ++ free) noes old new)
step_bare (owing n p [] free noes old new) false = refl
step_bare (owing n p (p₁ ∷ ps) free noes old new) false = refl
step_bare (asking n p free noes old new) true = ap going (unfold_bare n (view p) free noes old new)
step_bare (asking n p free noes old new) false = ap going (go_bare n (enter_plane n) (enter_bare n) free (noes ++ p ∷ []) old new)
step_bare (sign n r c free noes old new) b = ap going (go_bare n (enter_plane n) (enter_bare n) free noes old (new ++ noted r c b ∷ []) ∙ ap (go_on n free noes (map bare_cell old)) (map-append bare_cell new (noted r c b ∷ [])))
step_bare (refinement n e todo done noes new) b = ap going (refine_bare n (enter_plane n) (enter_bare n) todo (done ++ refined e b ∷ []) noes new ∙ ap (λ d. refine_on n (map bare_cell todo) d noes (map bare_cell new)) (map-append bare_cell done (refined e b ∷ [])))
step_bare (finished noes old) b = refl

ask_bare : (s : State) (g : Grid) → answer g (ask (bare s)) ≡ answer g (ask s)
ask_bare (owing n p ps free noes old new) g = refl
ask_bare (asking n p free noes old new) g = refl
ask_bare (sign n r c free noes old new) g = refl
ask_bare (refinement n e todo done noes new) g = refl
ask_bare (finished noes old) g = refl

pub places_suffice : PlacesSuffice
places_suffice s = (step_bare s, ask_bare s)
