-- Each cell is in one place: how many parts and found cells have it does not change.
use Rattle.std.proofs.Common.{◌≡◌, ℕ, zero, suc, ◌+◌, ◌<◌, Bool, true, false, List, [], ◌∷◌, ◌++◌, sym, refl, ◌∙◌, zero-add, arith}
use Rattle.std.specs.List.{AllByRecursion}
use Rattle.speck.specs.declared.Part.{Part}
use Rattle.speck.specs.declared.Part.TheVariants.{Block}
use Rattle.speck.specs.Grid.{View, cell, parts, view, inside, coverage, square}
use Rattle.speck.specs.Survey.{Found, arranged, refined}
use Rattle.speck.specs.Machine.{State, owing, asking, sign, refinement, finished, refine_on_by, go_on_by, enter_plane, unfolded, step, Next, going, contradiction, surplus, run, feed, start}
use Rattle.speck.proofs.Lists.{coverage_append, coverage_arrange, each_append}
use Rattle.speck.proofs.Geometry.{Made, made, whole}

abbrev pub at : Found → ℕ → ℕ → ℕ
at e i j = inside (Block 0 e.row e.column) i j

abbrev pub cnt : List Found → ℕ → ℕ → ℕ
cnt [] i j = 0
cnt (e ∷ es) i j = at e i j + cnt es i j

pub cnt_append : (xs ys : List Found) (i j : ℕ) → cnt (xs ++ ys) i j ≡ cnt xs i j + cnt ys i j
cnt_append [] ys i j = sym (zero-add (cnt ys i j))
cnt_append (x ∷ xs) ys i j = omega (arith, cnt_append xs ys i j)

abbrev pub count : State → ℕ → ℕ → ℕ
count (owing n p ps free noes old new) i j = (inside p i j + (coverage ps i j + coverage free i j)) + (coverage noes i j + (cnt old i j + cnt new i j))
count (asking n p free noes old new) i j = (inside p i j + coverage free i j) + (coverage noes i j + (cnt old i j + cnt new i j))
count (sign n r c free noes old new) i j = (inside (Block 0 r c) i j + coverage free i j) + (coverage noes i j + (cnt old i j + cnt new i j))
count (refinement n e todo done noes new) i j = (at e i j + cnt todo i j) + (cnt done i j + (coverage noes i j + cnt new i j))
count (finished noes old) i j = coverage noes i j + cnt old i j

-- each found cell has a bit
abbrev pub Some : List Found → Type 0
Some = AllByRecursion (λ e. 0 < e.leading)

abbrev pub Sound : State → Type 0
Sound (owing n p ps free noes old new) = Some old × Some new
Sound (asking n p free noes old new) = Some old × Some new
Sound (sign n r c free noes old new) = Some old × Some new
Sound (refinement n e todo done noes new) = Some (e ∷ todo) × Some done × Some new
Sound (finished noes old) = Some old

module _ (i j : ℕ) where
  turn_by_count : (n : ℕ) (k : List Part → List Found → State) → ((w : List Part) (f : List Found) → count (k w f) i j ≡ coverage w i j + cnt f i j) → (todo done : List Found) (noes : List Part) (new : List Found) → count (refine_on_by k n todo done noes new) i j ≡ cnt todo i j + (cnt done i j + (coverage noes i j + cnt new i j))
  turn_by_count n k H [] done noes new = omega (arith, H noes (done ++ new), cnt_append done new i j)
  turn_by_count n k H (e ∷ todo) done noes new = refl

  go_by_count : (n : ℕ) (k : List Part → List Found → State) → ((w : List Part) (f : List Found) → count (k w f) i j ≡ coverage w i j + cnt f i j) → (free noes : List Part) (old new : List Found) → count (go_on_by k n free noes old new) i j ≡ coverage free i j + (coverage noes i j + (cnt old i j + cnt new i j))
  go_by_count n k H [] noes old new = omega (arith, turn_by_count n k H old [] noes new)
  go_by_count n k H (p ∷ free) noes old new = refl

  enter_count : (n : ℕ) (w : List Part) (f : List Found) → count (enter_plane n w f) i j ≡ coverage w i j + cnt f i j
  unfolding enter_plane
  enter_count zero w f = refl
  enter_count (suc n) w f = omega (arith, go_by_count n (enter_plane n) (enter_count n) (arranged w) [] f [], coverage_arrange w i j)

  yes_count : (n : ℕ) (p : Part) (v : View) → Made p v → (free noes : List Part) (old new : List Found) → count (unfolded n v free noes old new) i j ≡ (inside p i j + coverage free i j) + (coverage noes i j + (cnt old i j + cnt new i j))
  yes_count n p (cell r c) m free noes old new = omega (arith, m.2 i j)
  yes_count n p (parts k ks) m free noes old new = omega (arith, m i j)

  abbrev pub Keeps : State → Next → Type 0
  Keeps s (going t) = count t i j ≡ count s i j
  Keeps s contradiction = Unit {0}
  Keeps s surplus = Unit {0}

  step_count : (s : State) (b : Bool) → Keeps s (step s b)
  step_count (owing n p ps free noes old new) true = omega (arith, yes_count n p (view p) (made p) (ps ++ free) noes old new, coverage_append ps free i j)
  step_count (owing n p [] free noes old new) false = tt
  step_count (owing n p (p₁ ∷ ps) free noes old new) false = omega (arith, coverage_append noes (p ∷ []) i j)
  step_count (asking n p free noes old new) true = yes_count n p (view p) (made p) free noes old new
  step_count (asking n p free noes old new) false = omega (arith, coverage_append noes (p ∷ []) i j, go_by_count n (enter_plane n) (enter_count n) free (noes ++ p ∷ []) old new)
  step_count (sign n r c free noes old new) b =
      let e : Found = record { row = r; column = c; negative = b; leading = 1 } in
      omega (arith, cnt_append new (e ∷ []) i j, go_by_count n (enter_plane n) (enter_count n) free noes old (new ++ e ∷ []))
  step_count (refinement n e todo done noes new) b = omega (arith, cnt_append done (refined e b ∷ []) i j, turn_by_count n (enter_plane n) (enter_count n) todo (done ++ refined e b ∷ []) noes new)
  step_count (finished noes old) b = tt

  abbrev pub AllAt : ℕ → Next → Type 0
  AllAt c (going t) = count t i j ≡ c
  AllAt c contradiction = Unit {0}
  AllAt c surplus = Unit {0}

  feed_count : (c : ℕ) (t : Next) (b : Bool) → AllAt c t → AllAt c (feed t b)
  feed_count c (going s) b h = go_on (step s b) (step_count s b)
    where
      go_on : (u : Next) → Keeps s u → AllAt c u
      go_on (going t) k = k ∙ h
      go_on contradiction k = tt
      go_on surplus k = tt
  feed_count c contradiction b h = tt
  feed_count c surplus b h = tt

  pub run_count : (bits : List Bool) (c : ℕ) (t : Next) → AllAt c t → AllAt c (run t bits)
  run_count [] c t h = h
  run_count (b ∷ bs) c t h = run_count bs c (feed t b) (feed_count c t b h)

  pub start_count : (x k P : ℕ) → count (start x k P) i j ≡ square (x + k) 0 0 i j
  start_count x k zero = omega (arith, whole x k i j)
  start_count x k (suc n) = omega (arith, whole x k i j)

-- the same for what a found cell has
turn_by_sound : (n : ℕ) (k : List Part → List Found → State) → ((w : List Part) (f : List Found) → Some f → Sound (k w f)) → (todo done : List Found) (noes : List Part) (new : List Found) → Some todo → Some done → Some new → Sound (refine_on_by k n todo done noes new)
turn_by_sound n k H [] done noes new a b c = H noes (done ++ new) (each_append (λ e. 0 < e.leading) done new b c)
turn_by_sound n k H (e ∷ todo) done noes new a b c = (a, b, c)

go_by_sound : (n : ℕ) (k : List Part → List Found → State) → ((w : List Part) (f : List Found) → Some f → Sound (k w f)) → (free noes : List Part) (old new : List Found) → Some old → Some new → Sound (go_on_by k n free noes old new)
go_by_sound n k H [] noes old new a b = turn_by_sound n k H old [] noes new a tt b
go_by_sound n k H (p ∷ free) noes old new a b = (a, b)

enter_sound : (n : ℕ) (w : List Part) (f : List Found) → Some f → Sound (enter_plane n w f)
unfolding enter_plane
enter_sound zero w f h = h
enter_sound (suc n) w f h = go_by_sound n (enter_plane n) (enter_sound n) (arranged w) [] f [] h tt

yes_sound : (n : ℕ) (v : View) (free noes : List Part) (old new : List Found) → Some old × Some new → Sound (unfolded n v free noes old new)
yes_sound n (cell r c) free noes old new h = h
yes_sound n (parts k ks) free noes old new h = h

abbrev pub Sounds : Next → Type 0
Sounds (going s) = Sound s
Sounds contradiction = Unit {0}
Sounds surplus = Unit {0}

step_sound : (s : State) (b : Bool) → Sound s → Sounds (step s b)
step_sound (owing n p ps free noes old new) true h = yes_sound n (view p) (ps ++ free) noes old new h
step_sound (owing n p [] free noes old new) false h = tt
step_sound (owing n p (p₁ ∷ ps) free noes old new) false h = h
step_sound (asking n p free noes old new) true h = yes_sound n (view p) free noes old new h
step_sound (asking n p free noes old new) false h = go_by_sound n (enter_plane n) (enter_sound n) free _ old new h.0 h.1
step_sound (sign n r c free noes old new) b h = go_by_sound n (enter_plane n) (enter_sound n) free noes old _ h.0 (each_append (λ e. 0 < e.leading) new _ h.1 (omega arith, tt))
step_sound (refinement n e todo done noes new) b h = turn_by_sound n (enter_plane n) (enter_sound n) todo _ noes new h.0.1 (each_append (λ e. 0 < e.leading) done _ h.1 (omega (arith, h.0.0), tt)) h.2
step_sound (finished noes old) b h = tt

feed_sound : (t : Next) (b : Bool) → Sounds t → Sounds (feed t b)
feed_sound (going s) b h = step_sound s b h
feed_sound contradiction b h = tt
feed_sound surplus b h = tt

pub run_sound : (bits : List Bool) (t : Next) → Sounds t → Sounds (run t bits)
run_sound [] t h = h
run_sound (b ∷ bs) t h = run_sound bs (feed t b) (feed_sound t b h)

pub start_sound : (x k P : ℕ) → Sound (start x k P)
start_sound x k zero = tt
start_sound x k (suc n) = (tt, tt)
