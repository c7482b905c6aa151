-- What the machine's laws say of a walk and the bits that it has taken.
use Rattle.std.proofs.Common.{◌≡◌, ℕ, zero, suc, ◌+◌, Bool, List, [], ◌∷◌, ◌++◌, Ok, Err, Result, sym, refl, ap, ◌∙◌, subst}
use Rattle.speck.specs.Grid.{Grid}
use Rattle.speck.specs.Machine.{State, owing, asking, sign, refinement, finished, Next, going, contradiction, surplus, Question, ask, feed, run, start, step}
use Rattle.speck.specs.Laws.{AsksOn, BeginsASurvey}
use Rattle.speck.specs.Places.{bare, bare_next, place_step}
use Rattle.speck.specs.Receiver.{Headed, Prefix}
use Rattle.speck.specs.Survey.{survey}
use Rattle.speck.proofs.Asking.{question_is_next}
use Rattle.speck.proofs.Bare.{places_suffice}
use Rattle.speck.proofs.Consequences.{refused}
use Rattle.speck.proofs.Trace.{IsOn, run_append, state_at}
use Rattle.walk.specs.declared.Walk.{Walk}
use Rattle.walk.specs.declared.asking.BitFault.{BitFault}
use Rattle.walk.specs.declared.asking.BitFault.TheVariants as fault
use Rattle.walk.specs.Walks.{Follows, Judged, next_of, state_of}

bare_start : (x k P : ℕ) → bare (start x k P) ≡ start x k P
bare_start x k zero = refl
bare_start x k (suc n) = refl

pub opens : (w : Walk) (x k P : ℕ) → state_of w ≡ start x k P → Follows w x k P []
opens w x k P e = record { state = start x k P; reached = refl; places = e ∙ sym (bare_start x k P) }

taken : (w : Walk) (x k P : ℕ) (bits : List Bool) (u : Next) → run (going (start x k P)) bits ≡ u → bare_next u ≡ going (state_of w) → Follows w x k P bits × BeginsASurvey x k P bits
taken w x k P bits (going s) e h = (record { state = s; reached = e; places = sym (ap (state_at s) h) }, (refused x k P bits).0 (s, e))
taken w x k P bits contradiction e h = absurd (subst IsOn (sym h) tt)
taken w x k P bits surplus e h = absurd (subst IsOn (sym h) tt)

off : (e : BitFault) (s : State) → IsOn (next_of (Err e) s) → ⊥
off fault.Contradiction s h = h
off fault.Surplus s h = h

judge : (w : Walk) (r : Result (Unit {0}) BitFault) (x k P : ℕ) (bits : List Bool) → bare_next (run (going (start x k P)) bits) ≡ next_of r (state_of w) → Judged r w x k P bits
judge w (Ok _) x k P bits h = taken w x k P bits (run (going (start x k P)) bits) refl h
judge w (Err e) x k P bits h = λ b. let t = (refused x k P bits).1 b in off e (state_of w) (subst IsOn (sym (ap bare_next t.1) ∙ h) tt)

-- a step of the walk, after bits, is the machine's after the same bits
pub judges : (w v : Walk) (r : Result (Unit {0}) BitFault) (b : Bool) → next_of r (state_of v) ≡ place_step (state_of w) b → (x k P : ℕ) (bits : List Bool) → Follows w x k P bits → Judged r v x k P (bits ++ b ∷ [])
judges w v r b h x k P bits f =
    let e : run (going (start x k P)) (bits ++ b ∷ []) ≡ step f.state b = run_append bits (b ∷ []) (going (start x k P)) ∙ ap (λ u. feed u b) f.reached in
    judge v r x k P (bits ++ b ∷ []) (ap bare_next e ∙ ((places_suffice f.state).0 b ∙ (ap (λ s. place_step s b) (sym f.places) ∙ sym h)))

asks_bare : (s : State) (g : Grid) (bits all : List Bool) → AsksOn (ask s) g bits all → AsksOn (ask (bare s)) g bits all
asks_bare (owing n p ps free noes old new) g bits all h = h
asks_bare (asking n p free noes old new) g bits all h = h
asks_bare (sign n r c free noes old new) g bits all h = h
asks_bare (refinement n e todo done noes new) g bits all h = h
asks_bare (finished noes old) g bits all h = h

-- the walk's question, after the first bits of a survey, is the survey's next
pub asks_on : (w : Walk) (q : Question) → q ≡ ask (state_of w) → (x k P : ℕ) (bits : List Bool) (g : Grid) → Follows w x k P bits → Headed (x + k) P g → Prefix bits (survey x k P g) → AsksOn q g bits (survey x k P g)
asks_on w q e x k P bits g f h p = subst (λ a. AsksOn a g bits (survey x k P g)) (sym (e ∙ ap ask f.places)) (asks_bare f.state g bits (survey x k P g) (question_is_next x k P g bits f.state h p f.reached))
