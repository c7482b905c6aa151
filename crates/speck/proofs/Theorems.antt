-- What the machine and the survey are to each other.
use Rattle.std.proofs.Common.{◌≡◌, ℕ, zero, suc, ◌+◌, ◌^◌, ◌<◌, Bool, List, [], ◌∷◌, ◌++◌, ℤ, ◌-ℤ◌, sym, refl, ap, ◌∙◌, subst, append-nil, arith}
use Rattle.std.proofs.lemmas.Int.{ints}
use Rattle.speck.specs.declared.Part.{Part}
use Rattle.speck.specs.declared.Part.TheVariants.{Block}
use Rattle.speck.specs.Grid.{Grid, magnitude, outside, square}
use Rattle.speck.specs.Survey.{Found, survey}
use Rattle.speck.specs.Machine.{State, owing, asking, sign, refinement, finished, Next, going, contradiction, surplus, run, start}
use Rattle.speck.specs.Receiver.{known, open_planes, InGrid, Headed, Prefix, SurveyGivesGrid, WholeIsSurvey, NearAfterEveryBit, CanBecomeSurvey}
use Rattle.speck.proofs.Lists.{coverage_append}
use Rattle.speck.proofs.Possible.{Possible}
use Rattle.speck.proofs.Geometry.{whole, square_one, square_in, square_row, square_col}
use Rattle.speck.proofs.Tells.{any_significant_yes}
use Rattle.speck.proofs.Steps.{Goes}
use Rattle.speck.proofs.Trace.{Trace, trace_run, run_append, back_run, goes_on, begins, IsOn}
use Rattle.speck.proofs.Walk.{Whole, survey_walk}
use Rattle.speck.proofs.Count.{count, Sound, Sounds, run_count, start_count, run_sound, start_sound, AllAt}
use Rattle.speck.proofs.Upper.{upper_none, none_upper, upper_some, some_upper}
use Rattle.speck.proofs.Final.{near}
use Rattle.speck.proofs.Fill.{fill, filled}

-- the first state allows the grids of the head
pub start_in : (x k P : ℕ) (g : Grid) → Headed (x + k) P g → Possible (start x k P) g
start_in x k zero g h = record { calm = λ i j c. none_upper 0 (magnitude (g i j)) (h.below i j (record { row = square_row (x + k) i j (omega (arith, whole x k i j)); column = square_col (x + k) i j (omega (arith, whole x k i j)) })); known = tt }
start_in x k (suc n) g h = (
  record { waits = λ i j c. none_upper (suc n) (magnitude (g i j)) (h.below i j (record { row = square_row (x + k) i j (omega (arith, whole x k i j, coverage_append (outside k x) [] i j)); column = square_col (x + k) i j (omega (arith, whole x k i j, coverage_append (outside k x) [] i j)) })); calm = λ i j c. absurd (omega arith); known = tt; fresh = tt },
  let t = h.top in record { row = t.0; column = t.1; there = omega (arith, whole x k t.0 t.1, square_in (x + k) t.0 t.1 t.2.row t.2.column); big = some_upper n (magnitude (g t.0 t.1)) t.3 },
)

start_out : (x k P : ℕ) (g : Grid) → Possible (start x k P) g → Headed (x + k) P g
start_out x k zero g o = record { below = λ i j c. upper_none 0 (magnitude (g i j)) (o.calm i j (omega (arith, whole x k i j, square_in (x + k) i j c.row c.column))); top = tt }
start_out x k (suc n) g c =
    let l = c.1 in
    record {
      below = λ i j d. upper_none (suc n) (magnitude (g i j)) (c.0.waits i j (omega (arith, whole x k i j, coverage_append (outside k x) [] i j, square_in (x + k) i j d.row d.column)));
      top = (l.row, l.column, record { row = square_row (x + k) l.row l.column (omega (arith, l.there, whole x k l.row l.column)); column = square_col (x + k) l.row l.column (omega (arith, l.there, whole x k l.row l.column)) }, upper_some n (magnitude (g l.row l.column)) l.big);
    }

-- the survey is a whole run
pub surveyed : (x k P : ℕ) (g : Grid) → Possible (start x k P) g → Whole g (survey x k P g) (going (start x k P))
surveyed x k zero g c = record { waits = Block x 0 0 ∷ outside k x; finds = []; trace = refl }
surveyed x k (suc n) g c = survey_walk x k n g (any_significant_yes g n (Block x 0 0 ∷ outside k x) c.1)

-- what holds of a state that a run comes to
reached_count : (x k P : ℕ) (bits : List Bool) (s : State) → run (going (start x k P)) bits ≡ going s → (i j : ℕ) → count s i j ≡ square (x + k) 0 0 i j
reached_count x k P bits s e i j = subst (AllAt i j (square (x + k) 0 0 i j)) e (run_count i j bits (square (x + k) 0 0 i j) (going (start x k P)) (start_count i j x k P))

reached_sound : (x k P : ℕ) (bits : List Bool) (s : State) → run (going (start x k P)) bits ≡ going s → Sound s
reached_sound x k P bits s e = subst Sounds e (run_sound bits (going (start x k P)) (start_sound x k P))

pub reached_one : (x k P : ℕ) (bits : List Bool) (s : State) → run (going (start x k P)) bits ≡ going s → (i j : ℕ) → InGrid (x + k) i j → count s i j ≡ 1
reached_one x k P bits s e i j c = omega (arith, reached_count x k P bits s e i j, square_in (x + k) i j c.row c.column)

reached_fill : (x k P : ℕ) (bits : List Bool) (s : State) → run (going (start x k P)) bits ≡ going s → Possible s (fill s)
reached_fill x k P bits s e = filled s (reached_sound x k P bits s e) (λ i j. omega (arith, reached_count x k P bits s e i j, square_one (x + k) i j))

same_from_near : (a b : ℤ) → magnitude (a -ℤ b) < 1 → a ≡ b
same_from_near a b h = omega (arith, ints)

pub returns : SurveyGivesGrid
returns x k P g h =
    let c = start_in x k P g h in
    let w = surveyed x k P g c in
    let s : State = finished w.waits w.finds in
    let e = trace_run g (survey x k P g) (going (start x k P)) (going s) w.trace in
    let o = goes_on g (survey x k P g) (going (start x k P)) s c w.trace in
    (s, e, refl, λ i j d. same_from_near (known s i j) (g i j) (near s g o i j (reached_one x k P (survey x k P g) s e i j d)))

pub near_always : NearAfterEveryBit
near_always x k P g h bits p =
    let c = start_in x k P g h in
    let w = surveyed x k P g c in
    let z : State = finished w.waits w.finds in
    let o : Possible z g = goes_on g (survey x k P g) (going (start x k P)) z c w.trace in
    let e : run (run (going (start x k P)) bits) p.0 ≡ going z = sym (run_append bits p.0 (going (start x k P))) ∙ (ap (run (going (start x k P))) p.1 ∙ trace_run g (survey x k P g) (going (start x k P)) (going z) w.trace) in
    let q = back_run g p.0 (run (going (start x k P)) bits) (subst (λ u. Goes u g) (sym e) o) in
    at (run (going (start x k P)) bits) refl q.0
  where
    at : (u : Next) → run (going (start x k P)) bits ≡ u → Goes u g → (s : State) × (run (going (start x k P)) bits ≡ going s) × ((i j : ℕ) → InGrid (x + k) i j → magnitude (known s i j -ℤ g i j) < 2 ^ open_planes s)
    at (going s) e c = (s, e, λ i j d. near s g c i j (reached_one x k P bits s e i j d))
    at contradiction e c = absurd c
    at surplus e c = absurd c

-- a grid that the state allows has a survey that begins with what led there
begun : (x k P : ℕ) (bits : List Bool) (s : State) (g : Grid) → run (going (start x k P)) bits ≡ going s → Possible s g → Headed (x + k) P g × Prefix bits (survey x k P g)
begun x k P bits s g e c =
    let b = back_run g bits (going (start x k P)) (subst (λ u. Goes u g) (sym e) c) in
    let w = surveyed x k P g b.0 in
    (start_out x k P g b.0, begins g bits (survey x k P g) (going (start x k P)) s w.waits w.finds (subst (Trace g bits (going (start x k P))) e b.1) w.trace)

pub open_always : CanBecomeSurvey
open_always x k P bits s e = (fill s, (begun x k P bits s (fill s) e (reached_fill x k P bits s e)).0, (begun x k P bits s (fill s) e (reached_fill x k P bits s e)).1)

-- nothing comes after the end
run_surplus : (cs : List Bool) → run surplus cs ≡ surplus
run_surplus [] = refl
run_surplus (c ∷ cs) = run_surplus cs

no_more : (w : List Part) (f : List Found) (cs : List Bool) (s : State) → run (going (finished w f)) cs ≡ going s → cs ≡ []
no_more w f [] s e = refl
no_more w f (c ∷ cs) s e = absurd (subst IsOn (sym e ∙ run_surplus cs) tt)

allows : (x k P : ℕ) (bits : List Bool) (w : List Part) (f : List Found) → run (going (start x k P)) bits ≡ going (finished w f) → Possible (finished w f) (known (finished w f))
unfolding fill
allows x k P bits w f e = reached_fill x k P bits (finished w f) e

pub honest : WholeIsSurvey
honest x k P bits (owing n p ps free noes old new) e z = absurd (omega arith)
honest x k P bits (asking n p free noes old new) e z = absurd (omega arith)
honest x k P bits (sign n r c free noes old new) e z = absurd (omega arith)
honest x k P bits (refinement n a todo done noes new) e z = absurd (omega arith)
honest x k P bits (finished w f) e z =
    let g : Grid = known (finished w f) in
    let b = begun x k P bits (finished w f) g e (allows x k P bits w f e) in
    let c : Possible (start x k P) g = start_in x k P g b.0 in
    let y = surveyed x k P g c in
    let r : run (going (finished w f)) b.1.0 ≡ going (finished y.waits y.finds) =
    ap (λ u. run u b.1.0) (sym e) ∙ (sym (run_append bits b.1.0 (going (start x k P))) ∙ (ap (run (going (start x k P))) b.1.1 ∙ trace_run g (survey x k P g) _ _ y.trace)) in
    (b.0, sym (append-nil bits) ∙ (ap (λ l. bits ++ l) (sym (no_more w f b.1.0 _ r)) ∙ b.1.1))
