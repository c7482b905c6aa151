-- One answer: forwards and backwards.
use Rattle.std.proofs.Common.{◌≡◌, ℕ, suc, ◌+◌, ◌*◌, ◌/◌, ◌<◌, ◌≤◌, Bool, true, false, ◌⊎◌, List, [], ◌∷◌, ◌++◌, refl, inl, inr, arith}
use Rattle.std.proofs.lemmas.Bool.{cases_lt}
use Rattle.std.proofs.lemmas.Bool.Decides.{nat_tests as tests}
use Rattle.speck.specs.declared.Part.{Part}
use Rattle.speck.specs.Grid.{Grid, magnitude, is_negative, upper, View, cell, parts, view, significant, inside, coverage}
use Rattle.speck.specs.Survey.{Found, refined, odd, bit_of, digit}
use Rattle.speck.specs.Machine.{State, owing, asking, sign, refinement, finished, ask, answer, enter_plane, unfolded, step, Next, going, contradiction, surplus}
use Rattle.speck.proofs.Lists.{coverage_append}
use Rattle.speck.proofs.Possible.{Insignificant, Significant, Fits, known_append, known_left, known_right, Base, Possible, enter_in, enter_out, turn_by_in, turn_by_out, go_by_in, go_by_out}
use Rattle.speck.proofs.Geometry.{Made, made}
use Rattle.speck.proofs.Tells.{tells, says_yes, says_no, split_insignificant}

abbrev pub Goes : Next → Grid → Type 0
Goes (going s) g = Possible s g
Goes contradiction g = ⊥
Goes surplus g = ⊥

abbrev pub Asks : State → Type 0
Asks (owing n p ps free noes old new) = Unit {0}
Asks (asking n p free noes old new) = Unit {0}
Asks (sign n r c free noes old new) = Unit {0}
Asks (refinement n e todo done noes new) = Unit {0}
Asks (finished noes old) = ⊥

-- a yes
yes_in : (g : Grid) (n : ℕ) (p : Part) (v : View) → Made p v → (free noes : List Part) (old new : List Found) → Base g n (p ∷ free) noes old new → Significant g n (p ∷ []) → Possible (unfolded n v free noes old new) g
yes_in g n p (cell r c) m free noes old new b l =
    let q = m.1 l.row l.column (omega (arith, l.there)) in
    let z : upper (suc n) (magnitude (g r c)) ≡ 0 = b.waits r c (omega (arith, m.0)) in
    let y : 0 < upper n (magnitude (g r c)) = rw (q.0, q.1) at l.big in
    (record { waits = λ i j h. b.waits i j (omega arith); calm = b.calm; known = b.known; fresh = b.fresh }, omega arith)
yes_in g n p (parts k ks) m free noes old new b l = (
  record { waits = λ i j h. b.waits i j (omega (arith, m i j, coverage_append ks free i j)); calm = b.calm; known = b.known; fresh = b.fresh },
  record { row = l.row; column = l.column; there = omega (arith, l.there, m l.row l.column); big = l.big },
)

yes_out : (g : Grid) (n : ℕ) (p : Part) (v : View) → Made p v → (free noes : List Part) (old new : List Found) → Possible (unfolded n v free noes old new) g → Base g n (p ∷ free) noes old new × Significant g n (p ∷ [])
yes_out g n p (cell r c) m free noes old new s = (
  record { waits = split_insignificant g (suc n) p free quiet s.0.waits; calm = s.0.calm; known = s.0.known; fresh = s.0.fresh },
  record { row = r; column = c; there = omega (arith, m.0); big = omega (arith, s.1) },
)
  where
    quiet : Insignificant g (suc n) (p ∷ [])
    quiet i j h = let q = m.1 i j (omega arith) in rw (q.0, q.1) (omega (arith, s.1))
yes_out g n p (parts k ks) m free noes old new s = (
  record { waits = λ i j h. s.0.waits i j (omega (arith, m i j, coverage_append ks free i j)); calm = s.0.calm; known = s.0.known; fresh = s.0.fresh },
  record { row = s.1.row; column = s.1.column; there = omega (arith, s.1.there, m s.1.row s.1.column); big = s.1.big },
)

-- a no
push_insignificant : (g : Grid) (n : ℕ) (noes : List Part) (p : Part) → Insignificant g n noes → Insignificant g n (p ∷ []) → Insignificant g n (noes ++ p ∷ [])
push_insignificant g n noes p a b i j h = go_on (cases_lt 0 (coverage noes i j))
  where
    go_on : (0 < coverage noes i j) ⊎ (coverage noes i j ≤ 0) → upper n (magnitude (g i j)) ≡ 0
    go_on (inl x) = a i j x
    go_on (inr x) = b i j (omega (arith, coverage_append noes (p ∷ []) i j))

unpush_left : (g : Grid) (n : ℕ) (noes : List Part) (p : Part) → Insignificant g n (noes ++ p ∷ []) → Insignificant g n noes
unpush_left g n noes p a i j h = a i j (omega (arith, coverage_append noes (p ∷ []) i j))

unpush_right : (g : Grid) (n : ℕ) (noes : List Part) (p : Part) → Insignificant g n (noes ++ p ∷ []) → Insignificant g n (p ∷ [])
unpush_right g n noes p a i j h = a i j (omega (arith, coverage_append noes (p ∷ []) i j))

lower : (g : Grid) (n : ℕ) (ps : List Part) → Insignificant g n ps → Insignificant g (suc n) ps
lower g n ps q i j h = omega (arith, q i j h)

-- the other parts still owe a cell
owe : (g : Grid) (n : ℕ) (p : Part) (ps : List Part) → Insignificant g n (p ∷ []) → Significant g n (p ∷ ps) → Significant g n ps
owe g n p ps q l = record { row = l.row; column = l.column; there = go_on (cases_lt 0 (inside p l.row l.column)); big = l.big }
  where
    go_on : (0 < inside p l.row l.column) ⊎ (inside p l.row l.column ≤ 0) → 0 < coverage ps l.row l.column
    go_on (inl x) = absurd (omega (arith, q l.row l.column (omega arith), l.big))
    go_on (inr x) = omega (arith, l.there)

no_in : (g : Grid) (n : ℕ) (p : Part) (free noes : List Part) (old new : List Found) → Base g n (p ∷ free) noes old new → Insignificant g n (p ∷ []) → Base g n free (noes ++ p ∷ []) old new
no_in g n p free noes old new b q = record { waits = λ i j h. b.waits i j (omega arith); calm = push_insignificant g n noes p b.calm q; known = b.known; fresh = b.fresh }

no_out : (g : Grid) (n : ℕ) (p : Part) (free noes : List Part) (old new : List Found) → Base g n free (noes ++ p ∷ []) old new → Base g n (p ∷ free) noes old new × Insignificant g n (p ∷ [])
no_out g n p free noes old new b =
    let q = unpush_right g n noes p b.calm in
    (record { waits = split_insignificant g (suc n) p free (lower g n (p ∷ []) q) b.waits; calm = unpush_left g n noes p b.calm; known = b.known; fresh = b.fresh }, q)

-- a sign
sign_in : (g : Grid) (n r c : ℕ) (free noes : List Part) (old new : List Found) → Base g n free noes old new → upper n (magnitude (g r c)) ≡ 1 → Base g n free noes old (new ++ record { row = r; column = c; negative = is_negative (g r c); leading = 1 } ∷ [])
sign_in g n r c free noes old new b e = record { waits = b.waits; calm = b.calm; known = b.known; fresh = known_append g n new _ b.fresh (record { size = e; side = refl }, tt) }

-- a bit
bit_in : (g : Grid) (n : ℕ) (e : Found) → Fits g (suc n) e → Fits g n (refined e (bit_of g n e))
bit_in g n e f = record { size = size_of (upper n (magnitude (g e.row e.column))) e.leading f.size; side = f.side }
  where
    size_of : (x v : ℕ) → x / 2 ≡ v → x ≡ 2 * v + digit (odd x)
    size_of x v h = grind (arith, tests)

bit_out : (g : Grid) (n : ℕ) (e : Found) (b : Bool) → Fits g n (refined e b) → Fits g (suc n) e × (bit_of g n e ≡ b)
bit_out g n e b f = (record { size = half (upper n (magnitude (g e.row e.column))) e.leading b f.size; side = f.side }, last (upper n (magnitude (g e.row e.column))) e.leading b f.size)
  where
    half : (x v : ℕ) (b : Bool) → x ≡ 2 * v + digit b → x / 2 ≡ v
    half x v true h = omega arith
    half x v false h = omega arith

    last : (x v : ℕ) (b : Bool) → x ≡ 2 * v + digit b → odd x ≡ b
    last x v true h = grind (arith, tests)
    last x v false h = grind (arith, tests)

-- forward: the right answer leads on
pub forward : (s : State) (g : Grid) → Asks s → Possible s g → Goes (step s (answer g (ask s))) g
forward (owing n p ps free noes old new) g a c = at ps c (significant g n p) refl
  where
    at : (ps : List Part) → Possible (owing n p ps free noes old new) g → (b : Bool) → significant g n p ≡ b → Goes (step (owing n p ps free noes old new) b) g
    at ps c true e = yes_in g n p (view p) (made p) (ps ++ free) noes old new c.0 ((tells g n p).yes! e)
    at [] c false e = let l = c.1 in absurd (omega (arith, (tells g n p).no! e l.row l.column l.there, l.big))
    at (p₁ ∷ ps) c false e = (no_in g n p (p₁ ∷ ps ++ free) noes old new c.0 ((tells g n p).no! e), owe g n p (p₁ ∷ ps) ((tells g n p).no! e) c.1)
forward (asking n p free noes old new) g a c = at (significant g n p) refl
  where
    at : (b : Bool) → significant g n p ≡ b → Goes (step (asking n p free noes old new) b) g
    at true e = yes_in g n p (view p) (made p) free noes old new c ((tells g n p).yes! e)
    at false e = go_by_in g n (enter_plane n) (enter_in g n) free (noes ++ p ∷ []) old new (no_in g n p free noes old new c ((tells g n p).no! e))
forward (sign n r c free noes old new) g a s = go_by_in g n (enter_plane n) (enter_in g n) free noes old _ (sign_in g n r c free noes old new s.0 s.1)
forward (refinement n e todo done noes new) g a t =
    turn_by_in g n (enter_plane n) (enter_in g n) todo (done ++ refined e (bit_of g n e) ∷ []) noes new
    (record { calm = t.calm; known = t.known.1; refined = known_append g n done _ t.refined (bit_in g n e t.known.0, tt); fresh = t.fresh })
forward (finished noes old) g a c = absurd a

-- backward: an answer that leads to what g allows was the right one
pub backward : (s : State) (b : Bool) (g : Grid) → Goes (step s b) g → Possible s g × (answer g (ask s) ≡ b)
backward (owing n p ps free noes old new) true g c =
    let y = yes_out g n p (view p) (made p) (ps ++ free) noes old new c in
    let l = y.1 in
    ((y.0, record { row = l.row; column = l.column; there = omega (arith, l.there); big = l.big }), says_yes g n p l)
backward (owing n p [] free noes old new) false g c = absurd c
backward (owing n p (p₁ ∷ ps) free noes old new) false g c =
    let y = no_out g n p (p₁ ∷ ps ++ free) noes old new c.0 in
    let l = c.1 in
    ((y.0, record { row = l.row; column = l.column; there = omega (arith, l.there); big = l.big }), says_no g n p y.1)
backward (asking n p free noes old new) true g c =
    let y = yes_out g n p (view p) (made p) free noes old new c in
    (y.0, says_yes g n p y.1)
backward (asking n p free noes old new) false g c =
    let y = no_out g n p free noes old new (go_by_out g n (enter_plane n) (enter_out g n) free (noes ++ p ∷ []) old new c) in
    (y.0, says_no g n p y.1)
backward (sign n r c free noes old new) b g s =
    let y = go_by_out g n (enter_plane n) (enter_out g n) free noes old (new ++ record { row = r; column = c; negative = b; leading = 1 } ∷ []) s in
    let f = known_right g n new (record { row = r; column = c; negative = b; leading = 1 } ∷ []) y.fresh in
    ((record { waits = y.waits; calm = y.calm; known = y.known; fresh = known_left g n new _ y.fresh }, f.0.size), f.0.side)
backward (refinement n e todo done noes new) b g c =
    let y = turn_by_out g n (enter_plane n) (enter_out g n) todo (done ++ refined e b ∷ []) noes new c in
    let f = bit_out g n e b (known_right g n done (refined e b ∷ []) y.refined).0 in
    (record { calm = y.calm; known = (f.0, y.known); refined = known_left g n done _ y.refined; fresh = y.fresh }, f.1)
backward (finished noes old) b g c = absurd c
