-- A grid that a state allows is near to what the state tells of it, at every cell.
use Rattle.std.proofs.Common.{◌≡◌, ℕ, suc, ◌+◌, ◌*◌, ◌^◌, ◌<◌, ◌≤◌, Bool, true, false, cond, eqb, ◌⊎◌, List, [], ◌∷◌, ◌++◌, ℤ, pos, ◌-ℤ◌, sym, refl, ap, ◌∙◌, inl, inr, arith, pow_mono}
use Rattle.std.proofs.lemmas.Bool.{cases_lt, false≢true, and_parts, and_from, eqb-true, eq-eqb}
use Rattle.speck.specs.declared.Part.{Part}
use Rattle.speck.specs.declared.Part.TheVariants.{Block}
use Rattle.speck.specs.Grid.{Grid, magnitude, signed, upper, inside, coverage}
use Rattle.speck.specs.Survey.{Found}
use Rattle.speck.specs.Machine.{State, owing, asking, sign, refinement, finished}
use Rattle.speck.specs.Receiver.{value, is_at, lookup, known, open_planes}
use Rattle.speck.proofs.Lists.{coverage_append}
use Rattle.speck.proofs.Possible.{Insignificant, Fits, Known, Base, Turn, Over, Possible}
use Rattle.speck.proofs.Geometry.{one_in, one_is}
use Rattle.speck.proofs.Count.{at, cnt, count}
use Rattle.speck.proofs.Upper.{upper_low, upper_high, upper_none, signed_eta, apart, apart_zero}

-- where a found cell is
here_yes : (e : Found) (i j : ℕ) → is_at e i j ≡ true → (e.row ≡ i) × (e.column ≡ j)
here_yes e i j h = let b = and_parts (eqb e.row i) (eqb e.column j) h in (eqb-true e.row i b.0, eqb-true e.column j b.1)

here_at : (e : Found) (i j : ℕ) → 0 < at e i j → is_at e i j ≡ true
here_at e i j h =
    let q = one_is e.row e.column i j h in
    and_from (eqb e.row i) (eqb e.column j) (eq-eqb e.row i (sym q.0)) (eq-eqb e.column j (sym q.1))

at_here : (e : Found) (i j : ℕ) → is_at e i j ≡ true → at e i j ≡ 1
at_here e i j h = let b = here_yes e i j h in rw (← b.0, ← b.1) (one_in e.row e.column)

-- what is read at a cell: a found cell's value, or else what is read otherwise
seek_cases : (g : Grid) (n : ℕ) (es : List Found) → Known g n es → (d : ℤ) (i j : ℕ) (P : ℤ → Type 0) → ((e : Found) → Fits g n e → e.row ≡ i → e.column ≡ j → P (value n e)) → (cnt es i j ≡ 0 → P d) → P (lookup n es d i j)
seek_cases g n [] k d i j P f z = z refl
seek_cases g n (e ∷ es) k d i j P f z = by (is_at e i j) refl (λ q. seek_cases g n es k.1 d i j P f q)
  where
    by : (b : Bool) → is_at e i j ≡ b → ((cnt es i j ≡ 0 → P d) → P (lookup n es d i j)) → P (cond (is_at e i j) (value n e) (lookup n es d i j))
    by true h ih = let b = here_yes e i j h in rw h (f e k.0 b.0 b.1)
    by false h ih = rw h (ih (λ o. z (omega (arith, miss))))
      where
        miss : at e i j ≤ 0
        miss = off (cases_lt 0 (at e i j))
          where
            off : (0 < at e i j) ⊎ (at e i j ≤ 0) → at e i j ≤ 0
            off (inl x) = absurd (false≢true (sym h ∙ here_at e i j x))
            off (inr x) = x

-- a found cell is near, below the lowest plane that it has
close : (g : Grid) (n q : ℕ) → n ≤ q → (i j : ℕ) (e : Found) → Fits g n e → e.row ≡ i → e.column ≡ j → magnitude (value n e -ℤ g i j) < 2 ^ q
unfolding value
close g n q l i j e f r c =
    let z = g e.row e.column in
    let h : magnitude (signed e.negative (e.leading * 2 ^ n) -ℤ signed e.negative (magnitude z)) < 2 ^ q = apart e.negative (e.leading * 2 ^ n) (magnitude z) (2 ^ q) (rw f.size at (upper_low n (magnitude z))) (omega (arith, rw f.size at (upper_high n (magnitude z)), pow_mono l)) in
    let same : signed e.negative (magnitude z) ≡ z = ap (λ b. signed b (magnitude z)) (sym f.side) ∙ signed_eta z in
    rw (← r, ← c) (rw same at h)

zero_close : (g : Grid) (n q : ℕ) → n ≤ q → (i j : ℕ) → upper n (magnitude (g i j)) ≡ 0 → magnitude (pos 0 -ℤ g i j) < 2 ^ q
zero_close g n q l i j h = apart_zero (g i j) (2 ^ q) (omega (arith, upper_none n (magnitude (g i j)) h, pow_mono l))

-- a cell that some list of parts has
from : (g : Grid) (n q : ℕ) → n ≤ q → (ps : List Part) → Insignificant g n ps → (i j : ℕ) → 0 < coverage ps i j → magnitude (pos 0 -ℤ g i j) < 2 ^ q
from g n q l ps c i j h = zero_close g n q l i j (c i j h)

-- plane n is under way
near_base : (g : Grid) (n : ℕ) (asks noes : List Part) (old new : List Found) → Base g n asks noes old new → (i j more : ℕ) → (0 < more → upper (suc n) (magnitude (g i j)) ≡ 0) → (coverage asks i j + more) + (coverage noes i j + (cnt old i j + cnt new i j)) ≡ 1 → magnitude (lookup (suc n) old (lookup n new (pos 0) i j) i j -ℤ g i j) < 2 ^ suc n
near_base g n asks noes old new b i j more m e =
    let P : ℤ → Type 0 = λ v. magnitude (v -ℤ g i j) < 2 ^ suc n in
    seek_cases g (suc n) old b.known _ i j P (close g (suc n) (suc n) (omega arith) i j) (λ o.
    seek_cases g n new b.fresh _ i j P (close g n (suc n) (omega arith) i j) (λ w.
    at_no o w (cases_lt 0 (coverage noes i j)) (cases_lt 0 more)))
  where
    at_no : cnt old i j ≡ 0 → cnt new i j ≡ 0 → (0 < coverage noes i j) ⊎ (coverage noes i j ≤ 0) → (0 < more) ⊎ (more ≤ 0) → magnitude (pos 0 -ℤ g i j) < 2 ^ suc n
    at_no o w (inl x) y = from g n (suc n) (omega arith) noes b.calm i j x
    at_no o w (inr x) (inl y) = zero_close g (suc n) (suc n) (omega arith) i j (m y)
    at_no o w (inr x) (inr y) = from g (suc n) (suc n) (omega arith) asks b.waits i j (omega arith)

near_turn : (g : Grid) (n : ℕ) (todo done : List Found) (noes : List Part) (new : List Found) → Turn g n todo done noes new → (i j : ℕ) → cnt todo i j + (cnt done i j + (coverage noes i j + cnt new i j)) ≡ 1 → magnitude (lookup (suc n) todo (lookup n done (lookup n new (pos 0) i j) i j) i j -ℤ g i j) < 2 ^ suc n
near_turn g n todo done noes new t i j e =
    let P : ℤ → Type 0 = λ v. magnitude (v -ℤ g i j) < 2 ^ suc n in
    seek_cases g (suc n) todo t.known _ i j P (close g (suc n) (suc n) (omega arith) i j) (λ o.
    seek_cases g n done t.refined _ i j P (close g n (suc n) (omega arith) i j) (λ u.
    seek_cases g n new t.fresh _ i j P (close g n (suc n) (omega arith) i j) (λ w.
    from g n (suc n) (omega arith) noes t.calm i j (omega arith))))

near_over : (g : Grid) (noes : List Part) (old : List Found) → Over g 0 noes old → (i j : ℕ) → coverage noes i j + cnt old i j ≡ 1 → magnitude (lookup 0 old (pos 0) i j -ℤ g i j) < 2 ^ 0
near_over g noes old t i j e =
    let P : ℤ → Type 0 = λ v. magnitude (v -ℤ g i j) < 2 ^ 0 in
    seek_cases g 0 old t.known _ i j P (close g 0 0 (omega arith) i j) (λ o. from g 0 0 (omega arith) noes t.calm i j (omega arith))

-- a grid that the state allows is near to what is known, at each cell of the grid
pub near : (s : State) (g : Grid) → Possible s g → (i j : ℕ) → count s i j ≡ 1 → magnitude (known s i j -ℤ g i j) < 2 ^ open_planes s
near (owing n p ps free noes old new) g c i j e = near_base g n (p ∷ ps ++ free) noes old new c.0 i j 0 (λ x. absurd (omega arith)) (omega (arith, coverage_append ps free i j))
near (asking n p free noes old new) g c i j e = near_base g n (p ∷ free) noes old new c i j 0 (λ x. absurd (omega arith)) (omega arith)
near (sign n r c free noes old new) g h i j e = near_base g n free noes old new h.0 i j (inside (Block 0 r c) i j) one (omega arith)
  where
    one : 0 < inside (Block 0 r c) i j → upper (suc n) (magnitude (g i j)) ≡ 0
    one x = let q = one_is r c i j x in rw (q.0, q.1) (omega (arith, h.1))
near (refinement n e todo done noes new) g c i j h = near_turn g n (e ∷ todo) done noes new c i j h
near (finished noes old) g c i j e = near_over g noes old c i j e
