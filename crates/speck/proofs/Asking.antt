-- A sender that asks and steps writes the survey.
use Rattle.std.proofs.Common.{◌≡◌, ℕ, zero, suc, ◌≤◌, Bool, List, [], ◌∷◌, ◌++◌, length, sym, refl, ap, ◌∙◌, subst, append_assoc, append-nil, arith}
use Rattle.speck.specs.declared.Part.{Part}
use Rattle.speck.specs.Grid.{Grid}
use Rattle.speck.specs.Survey.{Found, survey}
use Rattle.speck.specs.Machine.{State, owing, asking, sign, refinement, finished, ask, answer, step, Next, going, contradiction, surplus, run, start}
use Rattle.speck.specs.Receiver.{open_planes, Prefix}
use Rattle.speck.specs.Laws.{onward, asked, AskingGivesSurvey, AsksOn, QuestionIsNext}
use Rattle.speck.proofs.Steps.{Asks, Goes}
use Rattle.speck.proofs.Trace.{Trace, trace_run, run_append, back_run, goes_on, begins, past_end, IsOn, state_at}
use Rattle.speck.proofs.Theorems.{start_in, surveyed}

-- what is asked leads to a state that is not refused
record Reached (g : Grid) (bs : List Bool) (t : Next) : Type 0 where
  state : State
  trace : Trace g bs t (going state)

-- one question at a state that has one
abbrev AskedOnce : Grid → ℕ → State → Type 0
AskedOnce g n s = asked g (suc n) s ≡ answer g (ask s) ∷ onward (asked g n) (step s (answer g (ask s)))

once : (g : Grid) (n : ℕ) (s : State) → Asks s → AskedOnce g n s
once g n (owing m p ps free noes old new) a = refl
once g n (asking m p free noes old new) a = refl
once g n (sign m r c free noes old new) a = refl
once g n (refinement m e todo done noes new) a = refl
once g n (finished noes old) a = absurd a

finished_asks_none : (g : Grid) (n : ℕ) (w : List Part) (f : List Found) → asked g n (finished w f) ≡ []
finished_asks_none g zero w f = refl
finished_asks_none g (suc n) w f = refl

ended : (g : Grid) (n : ℕ) (s : State) (w : List Part) (f : List Found) → going s ≡ going (finished w f) → asked g n s ≡ []
ended g n s w f e = ap (onward (asked g n)) e ∙ finished_asks_none g n w f

-- no run goes on from a refusal
past_refusal : (g : Grid) (bs : List Bool) (s : State) → Trace g bs contradiction (going s) → ⊥
past_refusal g [] s h = subst IsOn (sym h) tt
past_refusal g (b ∷ bs) s h = h

-- where g answers a whole run, each answer that is asked for is taken
asked_more : (g : Grid) (n : ℕ) → ((s : State) (ys : List Bool) (w : List Part) (f : List Found) → Trace g ys (going s) (going (finished w f)) → Reached g (asked g n s) (going s)) → (s : State) → Asks s → (y : Bool) (ys : List Bool) (w : List Part) (f : List Found) → Trace g (y ∷ ys) (going s) (going (finished w f)) → Reached g (asked g (suc n) s) (going s)
asked_more g n ih s a y ys w f h = subst (λ l. Reached g l (going s)) (sym (once g n s a)) (by (step s (answer g (ask s))) refl (subst (λ b. Trace g ys (step s b) (going (finished w f))) (sym h.0) h.1))
  where
    by : (u : Next) → step s (answer g (ask s)) ≡ u → Trace g ys u (going (finished w f)) → Reached g (answer g (ask s) ∷ onward (asked g n) (step s (answer g (ask s)))) (going s)
    by (going t) e k =
        let z = ih t ys w f k in
        record { state = z.state; trace = (refl, subst (λ u. Trace g (onward (asked g n) u) u (going z.state)) (sym e) z.trace) }
    by contradiction e k = absurd (past_refusal g ys (finished w f) k)
    by surplus e k = absurd (past_end g ys (finished w f) k)

asked_trace : (g : Grid) (n : ℕ) (s : State) (ys : List Bool) (w : List Part) (f : List Found) → Trace g ys (going s) (going (finished w f)) → Reached g (asked g n s) (going s)
asked_trace g n s [] w f h = subst (λ l. Reached g l (going s)) (sym (ended g n s w f h)) (record { state = s; trace = refl })
asked_trace g zero s (y ∷ ys) w f h = record { state = s; trace = refl }
asked_trace g (suc n) (owing m p ps free noes old new) (y ∷ ys) w f h = asked_more g n (asked_trace g n) (owing m p ps free noes old new) tt y ys w f h
asked_trace g (suc n) (asking m p free noes old new) (y ∷ ys) w f h = asked_more g n (asked_trace g n) (asking m p free noes old new) tt y ys w f h
asked_trace g (suc n) (sign m r c free noes old new) (y ∷ ys) w f h = asked_more g n (asked_trace g n) (sign m r c free noes old new) tt y ys w f h
asked_trace g (suc n) (refinement m e todo done noes new) (y ∷ ys) w f h = asked_more g n (asked_trace g n) (refinement m e todo done noes new) tt y ys w f h
asked_trace g (suc n) (finished noes old) (y ∷ ys) w f h = record { state = finished noes old; trace = refl }

-- two whole runs of a grid are the same
same_end : (g : Grid) (xs ys : List Bool) (t : Next) (v w : List Part) (e f : List Found) → Trace g xs t (going (finished v e)) → Trace g ys t (going (finished w f)) → xs ≡ ys
same_end g [] [] t v w e f h k = refl
same_end g [] (y ∷ ys) t v w e f h k = absurd (past_end g ys (finished w f) (subst (λ u. Trace g (y ∷ ys) u (going (finished w f))) h k).1)
same_end g (x ∷ xs) [] t v w e f h k = absurd (past_end g xs (finished v e) (subst (λ u. Trace g (x ∷ xs) u (going (finished v e))) k h).1)
same_end g (x ∷ xs) (y ∷ ys) (going r) v w e f h k =
    let q : y ≡ x = sym k.0 ∙ h.0 in
    let z : xs ≡ ys = same_end g xs ys (step r x) v w e f h.1 (subst (λ b. Trace g ys (step r b) (going (finished w f))) q k.1) in
    ap (λ b. b ∷ xs) (sym q) ∙ ap (λ l. y ∷ l) z
same_end g (x ∷ xs) (y ∷ ys) contradiction v w e f h k = absurd h
same_end g (x ∷ xs) (y ∷ ys) surplus v w e f h k = absurd h

closed_is_end : (g : Grid) (xs ys : List Bool) (t : Next) (s : State) (w : List Part) (f : List Found) → Trace g xs t (going s) → Trace g ys t (going (finished w f)) → open_planes s ≡ 0 → xs ≡ ys
closed_is_end g xs ys t (owing n p ps free noes old new) w f h k z = absurd (omega arith)
closed_is_end g xs ys t (asking n p free noes old new) w f h k z = absurd (omega arith)
closed_is_end g xs ys t (sign n r c free noes old new) w f h k z = absurd (omega arith)
closed_is_end g xs ys t (refinement n e todo done noes new) w f h k z = absurd (omega arith)
closed_is_end g xs ys t (finished v e) w f h k z = same_end g xs ys t v w e f h k

opens : Next → ℕ
opens (going s) = open_planes s
opens contradiction = 1
opens surplus = 1

end_is_closed : (s : State) (w : List Part) (f : List Found) → going s ≡ going (finished w f) → open_planes s ≡ 0
unfolding opens
end_is_closed s w f e = ap opens e

-- as many questions as the run has bits
enough_more : (g : Grid) (n : ℕ) → ((s : State) (ys : List Bool) (w : List Part) (f : List Found) → Trace g ys (going s) (going (finished w f)) → length ys ≤ n → asked g n s ≡ ys) → (s : State) → Asks s → (y : Bool) (ys : List Bool) (w : List Part) (f : List Found) → Trace g (y ∷ ys) (going s) (going (finished w f)) → length ys ≤ n → asked g (suc n) s ≡ y ∷ ys
enough_more g n ih s a y ys w f h l = once g n s a ∙ (ap (λ b. b ∷ onward (asked g n) (step s b)) h.0 ∙ ap (λ u. y ∷ u) (by (step s y) ys l h.1))
  where
    by : (u : Next) (zs : List Bool) → length zs ≤ n → Trace g zs u (going (finished w f)) → onward (asked g n) u ≡ zs
    by (going t) zs l k = ih t zs w f k l
    by contradiction [] l k = refl
    by contradiction (z ∷ zs) l k = absurd k
    by surplus [] l k = refl
    by surplus (z ∷ zs) l k = absurd k

enough : (g : Grid) (n : ℕ) (s : State) (ys : List Bool) (w : List Part) (f : List Found) → Trace g ys (going s) (going (finished w f)) → length ys ≤ n → asked g n s ≡ ys
enough g n s [] w f h l = ended g n s w f h
enough g zero s (y ∷ ys) w f h l = absurd (omega arith)
enough g (suc n) (owing m p ps free noes old new) (y ∷ ys) w f h l = enough_more g n (enough g n) (owing m p ps free noes old new) tt y ys w f h (omega arith)
enough g (suc n) (asking m p free noes old new) (y ∷ ys) w f h l = enough_more g n (enough g n) (asking m p free noes old new) tt y ys w f h (omega arith)
enough g (suc n) (sign m r c free noes old new) (y ∷ ys) w f h l = enough_more g n (enough g n) (sign m r c free noes old new) tt y ys w f h (omega arith)
enough g (suc n) (refinement m e todo done noes new) (y ∷ ys) w f h l = enough_more g n (enough g n) (refinement m e todo done noes new) tt y ys w f h (omega arith)
enough g (suc n) (finished noes old) (y ∷ ys) w f h l = absurd (past_end g ys (finished w f) h.1)

pub asking_gives : AskingGivesSurvey
asking_gives x k P g h n =
    let w = surveyed x k P g (start_in x k P g h) in
    let bs : List Bool = asked g n (start x k P) in
    let t : Next = going (start x k P) in
    let y : Reached g bs t = asked_trace g n (start x k P) (survey x k P g) w.waits w.finds w.trace in
    let r : run t bs ≡ going y.state = trace_run g bs t (going y.state) y.trace in (
      begins g bs (survey x k P g) t y.state w.waits w.finds y.trace w.trace,
      (
        y.state,
        r,
        closed_is_end g bs (survey x k P g) t y.state w.waits w.finds y.trace w.trace,
        λ e. end_is_closed y.state w.waits w.finds (sym r ∙ (ap (run t) e ∙ trace_run g (survey x k P g) t (going (finished w.waits w.finds)) w.trace)),
      ),
      enough g n (start x k P) (survey x k P g) w.waits w.finds w.trace,
    )

-- the next of a string's bits, where g answers it and a bit is left
next_of : (g : Grid) (bits : List Bool) (c : Bool) (cs all : List Bool) → bits ++ c ∷ cs ≡ all → (b : Bool) → b ≡ c → Prefix (bits ++ b ∷ []) all
next_of g bits c cs all e b h = (cs, append_assoc bits (b ∷ []) cs ∙ (ap (λ d. bits ++ d ∷ cs) h ∙ e))

next_asked : (g : Grid) (bits : List Bool) (s : State) (c : Bool) (cs all : List Bool) (w : List Part) (f : List Found) → bits ++ c ∷ cs ≡ all → Trace g (c ∷ cs) (going s) (going (finished w f)) → AsksOn (ask s) g bits all
next_asked g bits (owing n p ps free noes old new) c cs all w f e h = next_of g bits c cs all e _ h.0
next_asked g bits (asking n p free noes old new) c cs all w f e h = next_of g bits c cs all e _ h.0
next_asked g bits (sign n r j free noes old new) c cs all w f e h = next_of g bits c cs all e _ h.0
next_asked g bits (refinement n a todo done noes new) c cs all w f e h = next_of g bits c cs all e _ h.0
next_asked g bits (finished noes old) c cs all w f e h = absurd (past_end g cs (finished w f) h.1)

pub question_is_next : QuestionIsNext
question_is_next x k P g bits s h p e =
    let c = start_in x k P g h in
    let w = surveyed x k P g c in
    let t : Next = going (start x k P) in
    let z : State = finished w.waits w.finds in
    let o = goes_on g (survey x k P g) t z c w.trace in
    let r : run (going s) p.0 ≡ going z = ap (λ u. run u p.0) (sym e) ∙ (sym (run_append bits p.0 t) ∙ (ap (run t) p.1 ∙ trace_run g (survey x k P g) t (going z) w.trace)) in
    let b = back_run g p.0 (going s) (subst (λ u. Goes u g) (sym r) o) in
    by p.0 p.1 z w.waits w.finds refl r (subst (Trace g p.0 (going s)) r b.1)
  where
    by : (cs : List Bool) → bits ++ cs ≡ survey x k P g → (z : State) (v : List Part) (f : List Found) → z ≡ finished v f → run (going s) cs ≡ going z → Trace g cs (going s) (going z) → AsksOn (ask s) g bits (survey x k P g)
    by [] q z v f y r h = subst (λ d. AsksOn (ask d) g bits (survey x k P g)) (sym (ap (state_at s) r ∙ y)) (sym (append-nil bits) ∙ q)
    by (d ∷ cs) q z v f y r h = next_asked g bits s d cs (survey x k P g) v f q (subst (λ a. Trace g (d ∷ cs) (going s) (going a)) y h)
