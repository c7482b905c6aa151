-- The answer to a question about a part says what it should.
use Rattle.std.proofs.Common.{◌≡◌, ℕ, ◌<◌, ◌≤◌, Bool, true, false, ◌⊎◌, List, [], ◌∷◌, sym, refl, ◌∙◌, subst, inl, inr, arith}
use Rattle.std.proofs.lemmas.Bool.{or_cases, or_parts, ltb-true, ltb-false, false≢true, cases_lt}
use Rattle.std.specs.List.{AllByRecursion}
use Rattle.speck.specs.declared.Part.{Part}
use Rattle.speck.specs.declared.Part.TheVariants.{Block}
use Rattle.speck.specs.Grid.{Grid, magnitude, upper, cell, parts, view, significant, inside, any_significant}
use Rattle.speck.proofs.Possible.{Insignificant, Significant}
use Rattle.speck.proofs.Geometry.{Made, made, part_ind, LoudBy, significant_by, significant_one_cell}

pub record Tells (g : Grid) (n : ℕ) (p : Part) : Type 0 where
  pub yes! : significant g n p ≡ true → Significant g n (p ∷ [])
  pub no! : significant g n p ≡ false → Insignificant g n (p ∷ [])

any_true : (g : Grid) (n : ℕ) (ps : List Part) → AllByRecursion (Tells g n) ps → any_significant g n ps ≡ true → Significant g n ps
any_true g n [] t h = absurd (false≢true h)
any_true g n (p ∷ ps) t h = go_on (or_cases (significant g n p) (any_significant g n ps) h) (any_true g n ps t.1)
  where
    go_on : (significant g n p ≡ true) ⊎ (any_significant g n ps ≡ true) → (any_significant g n ps ≡ true → Significant g n ps) → Significant g n (p ∷ ps)
    go_on (inl e) k = let l = t.0.yes! e in record { row = l.row; column = l.column; there = omega (arith, l.there); big = l.big }
    go_on (inr e) k = let l = k e in record { row = l.row; column = l.column; there = omega (arith, l.there); big = l.big }

-- a cell of p ∷ ps is one of p or one of ps
pub split_insignificant : (g : Grid) (n : ℕ) (p : Part) (ps : List Part) → Insignificant g n (p ∷ []) → Insignificant g n ps → Insignificant g n (p ∷ ps)
split_insignificant g n p ps a b i j h = go_on (cases_lt 0 (inside p i j))
  where
    go_on : (0 < inside p i j) ⊎ (inside p i j ≤ 0) → upper n (magnitude (g i j)) ≡ 0
    go_on (inl x) = a i j (omega arith)
    go_on (inr x) = b i j (omega arith)

any_false : (g : Grid) (n : ℕ) (ps : List Part) → AllByRecursion (Tells g n) ps → any_significant g n ps ≡ false → Insignificant g n ps
any_false g n [] t h = λ i j x. omega arith
any_false g n (p ∷ ps) t h =
    let b = or_parts (significant g n p) (any_significant g n ps) h in
    split_insignificant g n p ps (t.0.no! b.0) (any_false g n ps t.1 b.1)

tells_one : (g : Grid) (n r c : ℕ) → Tells g n (Block 0 r c)
tells_one g n r c = record { yes! = y; no! = z }
  where
    m : Made (Block 0 r c) (cell r c)
    m = made (Block 0 r c)

    y : significant g n (Block 0 r c) ≡ true → Significant g n (Block 0 r c ∷ [])
    y e = record { row = r; column = c; there = omega (arith, m.0); big = ltb-true 0 (upper n (magnitude (g r c))) (sym (significant_one_cell g n r c) ∙ e) }

    z : significant g n (Block 0 r c) ≡ false → Insignificant g n (Block 0 r c ∷ [])
    z e i j h =
        let q = m.1 i j (omega arith) in
        let l : upper n (magnitude (g r c)) ≤ 0 = ltb-false 0 (upper n (magnitude (g r c))) (sym (significant_one_cell g n r c) ∙ e) in
        rw (q.0, q.1) (omega arith)

tells_more : (g : Grid) (n : ℕ) (p : Part) (k : Part) (ks : List Part) → view p ≡ parts k ks → AllByRecursion (Tells g n) (k ∷ ks) → Tells g n p
tells_more g n p k ks e t = record { yes! = y; no! = z }
  where
    m : Made p (parts k ks)
    m = subst (Made p) e (made p)

    b : LoudBy g n p (parts k ks)
    b = subst (LoudBy g n p) e (significant_by g n p)

    y : significant g n p ≡ true → Significant g n (p ∷ [])
    y h = let l = any_true g n (k ∷ ks) t (sym b ∙ h) in record { row = l.row; column = l.column; there = omega (arith, l.there, m l.row l.column); big = l.big }

    z : significant g n p ≡ false → Insignificant g n (p ∷ [])
    z h i j x = any_false g n (k ∷ ks) t (sym b ∙ h) i j (omega (arith, m i j))

pub tells : (g : Grid) (n : ℕ) (p : Part) → Tells g n p
tells g n = part_ind (Tells g n) (tells_one g n) (tells_more g n)

-- and the other way round
pub says_yes : (g : Grid) (n : ℕ) (p : Part) → Significant g n (p ∷ []) → significant g n p ≡ true
says_yes g n p l = go_on (significant g n p) refl
  where
    go_on : (b : Bool) → significant g n p ≡ b → significant g n p ≡ true
    go_on true e = e
    go_on false e = absurd (omega (arith, (tells g n p).no! e l.row l.column l.there, l.big))

pub says_no : (g : Grid) (n : ℕ) (p : Part) → Insignificant g n (p ∷ []) → significant g n p ≡ false
says_no g n p q = go_on (significant g n p) refl
  where
    go_on : (b : Bool) → significant g n p ≡ b → significant g n p ≡ false
    go_on false e = e
    go_on true e = let l = (tells g n p).yes! e in absurd (omega (arith, q l.row l.column l.there, l.big))

tells_each : (g : Grid) (n : ℕ) (ps : List Part) → AllByRecursion (Tells g n) ps
tells_each g n [] = tt
tells_each g n (p ∷ ps) = (tells g n p, tells_each g n ps)

pub any_significant_yes : (g : Grid) (n : ℕ) (ps : List Part) → Significant g n ps → any_significant g n ps ≡ true
any_significant_yes g n ps l = go_on (any_significant g n ps) refl
  where
    go_on : (b : Bool) → any_significant g n ps ≡ b → any_significant g n ps ≡ true
    go_on true e = e
    go_on false e = absurd (omega (arith, any_false g n ps (tells_each g n ps) e l.row l.column l.there, l.big))
