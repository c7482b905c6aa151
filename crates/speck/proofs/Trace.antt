-- Runs in which a grid gives the answers.
use Rattle.std.proofs.Common.{◌≡◌, Bool, List, [], ◌∷◌, ◌++◌, sym, refl, ap, ◌∙◌, subst}
use Rattle.speck.specs.declared.Part.{Part}
use Rattle.speck.specs.Survey.{Found}
use Rattle.speck.specs.Grid.{Grid}
use Rattle.speck.specs.Machine.{State, owing, asking, sign, refinement, finished, ask, answer, step, Next, going, contradiction, surplus, run, feed}
use Rattle.speck.specs.Receiver.{Prefix}
use Rattle.speck.proofs.Possible.{Possible}
use Rattle.speck.proofs.Steps.{Goes, forward, backward}

-- from t, g answers the bits, and that leads to u
abbrev pub Trace : Grid → List Bool → Next → Next → Type 0
Trace g [] t u = t ≡ u
Trace g (b ∷ bs) (going s) u = (answer g (ask s) ≡ b) × Trace g bs (step s b) u
Trace g (b ∷ bs) contradiction u = ⊥
Trace g (b ∷ bs) surplus u = ⊥

pub trace_append : (g : Grid) (xs ys : List Bool) (t u v : Next) → Trace g xs t u → Trace g ys u v → Trace g (xs ++ ys) t v
trace_append g [] ys t u v h k = subst (λ w. Trace g ys w v) (sym h) k
trace_append g (x ∷ xs) ys (going s) u v h k = (h.0, trace_append g xs ys (step s x) u v h.1 k)
trace_append g (x ∷ xs) ys contradiction u v h k = absurd h
trace_append g (x ∷ xs) ys surplus u v h k = absurd h

pub trace_run : (g : Grid) (bs : List Bool) (t u : Next) → Trace g bs t u → run t bs ≡ u
trace_run g [] t u h = h
trace_run g (b ∷ bs) (going s) u h = trace_run g bs (step s b) u h.1
trace_run g (b ∷ bs) contradiction u h = absurd h
trace_run g (b ∷ bs) surplus u h = absurd h

pub run_append : (xs ys : List Bool) (t : Next) → run t (xs ++ ys) ≡ run (run t xs) ys
run_append [] ys t = refl
run_append (x ∷ xs) ys t = run_append xs ys (feed t x)

-- what g allows at the end it allowed at the beginning, and gave the answers
pub back_run : (g : Grid) (bs : List Bool) (t : Next) → Goes (run t bs) g → Goes t g × Trace g bs t (run t bs)
back_run g [] t h = (h, refl)
back_run g (b ∷ bs) (going s) h =
    let y = back_run g bs (step s b) h in
    let z = backward s b g y.0 in
    (z.0, (z.1, y.1))
back_run g (b ∷ bs) contradiction h = absurd (back_run g bs contradiction h).0
back_run g (b ∷ bs) surplus h = absurd (back_run g bs surplus h).0

-- it is no refusal
abbrev pub IsOn : Next → Type 0
IsOn (going s) = Unit {0}
IsOn contradiction = ⊥
IsOn surplus = ⊥

-- its state, or d where there is none
abbrev pub state_at : State → Next → State
state_at d (going s) = s
state_at d contradiction = d
state_at d surplus = d

pub past_end : (g : Grid) (bs : List Bool) (s : State) → Trace g bs surplus (going s) → ⊥
past_end g [] s h = subst IsOn (sym h) tt
past_end g (b ∷ bs) s h = h

-- what g allows at the beginning it allows at the end, if it gives the answers
pub goes_on : (g : Grid) (bs : List Bool) (t : Next) (s : State) → Goes t g → Trace g bs t (going s) → Possible s g
goes_on g [] t s h k = subst (λ u. Goes u g) k h
goes_on g (b ∷ bs) (going (owing n p ps free noes old new)) s h k = goes_on g bs _ s (subst (λ x. Goes (step (owing n p ps free noes old new) x) g) k.0 (forward (owing n p ps free noes old new) g tt h)) k.1
goes_on g (b ∷ bs) (going (asking n p free noes old new)) s h k = goes_on g bs _ s (subst (λ x. Goes (step (asking n p free noes old new) x) g) k.0 (forward (asking n p free noes old new) g tt h)) k.1
goes_on g (b ∷ bs) (going (sign n r c free noes old new)) s h k = goes_on g bs _ s (subst (λ x. Goes (step (sign n r c free noes old new) x) g) k.0 (forward (sign n r c free noes old new) g tt h)) k.1
goes_on g (b ∷ bs) (going (refinement n e todo done noes new)) s h k = goes_on g bs _ s (subst (λ x. Goes (step (refinement n e todo done noes new) x) g) k.0 (forward (refinement n e todo done noes new) g tt h)) k.1
goes_on g (b ∷ bs) (going (finished noes old)) s h k = absurd (past_end g bs s k.1)
goes_on g (b ∷ bs) contradiction s h k = absurd h
goes_on g (b ∷ bs) surplus s h k = absurd h

-- a whole run begins with every run
pub begins : (g : Grid) (xs ys : List Bool) (t : Next) (s : State) (w : List Part) (f : List Found) → Trace g xs t (going s) → Trace g ys t (going (finished w f)) → Prefix xs ys
begins g [] ys t s w f h k = (ys, refl)
begins g (x ∷ xs) [] (going r) s w f h k = absurd (past_end g xs s (subst (λ u. Trace g (x ∷ xs) u (going s)) k h).1)
begins g (x ∷ xs) (y ∷ ys) (going r) s w f h k =
    let e : y ≡ x = sym k.0 ∙ h.0 in
    let z = begins g xs ys (step r x) s w f h.1 (subst (λ b. Trace g ys (step r b) (going (finished w f))) e k.1) in
    (z.0, ap (λ b. b ∷ (xs ++ z.0)) (sym e) ∙ ap (λ l. y ∷ l) z.1)
begins g (x ∷ xs) [] contradiction s w f h k = absurd h
begins g (x ∷ xs) [] surplus s w f h k = absurd h
begins g (x ∷ xs) (y ∷ ys) contradiction s w f h k = absurd h
begins g (x ∷ xs) (y ∷ ys) surplus s w f h k = absurd h
