-- Every state that can be reached allows a grid.
use Rattle.std.proofs.Common.{◌≡◌, ℕ, zero, suc, ◌+◌, ◌*◌, ◌^◌, ◌<◌, ◌≤◌, Bool, true, false, cond, ◌&&◌, eqb, List, [], ◌∷◌, ◌++◌, ℤ, pos, refl, ap, ◌∙◌, subst, arith, pow_pos}
use Rattle.std.proofs.lemmas.Bool.{and_parts, and_from, eqb-true, eq-eqb}
use Rattle.std.specs.List.{AllByRecursion}
use Rattle.speck.specs.declared.Part.{Part}
use Rattle.speck.specs.declared.Part.TheVariants.{Block}
use Rattle.speck.specs.Survey.{Found}
use Rattle.speck.specs.Grid.{Grid, magnitude, is_negative, upper, parts, view, inside, coverage}
use Rattle.speck.specs.Machine.{State, owing, asking, sign, refinement, finished}
use Rattle.speck.specs.Receiver.{value, is_at, lookup, known}
use Rattle.speck.proofs.Lists.{coverage_append}
use Rattle.speck.proofs.Possible.{Insignificant, Fits, Known, Base, Possible}
use Rattle.speck.proofs.Geometry.{Made, made, one_in, part_ind}
use Rattle.speck.proofs.Count.{at, cnt, count, Some, Sound}
use Rattle.speck.proofs.Upper.{upper_is, none_upper, upper_scaled, mag_signed, neg_signed}

here_self : (e : Found) → is_at e e.row e.column ≡ true
here_self e = and_from (eqb e.row e.row) (eqb e.column e.column) (eq-eqb e.row e.row refl) (eq-eqb e.column e.column refl)

here_at : (e : Found) (i j : ℕ) → is_at e i j ≡ true → at e i j ≡ 1
here_at e i j h =
    let b = and_parts (eqb e.row i) (eqb e.column j) h in
    rw (← (eqb-true e.row i b.0), ← (eqb-true e.column j b.1)) (one_in e.row e.column)

at_off : (e : Found) (i j : ℕ) → at e i j ≡ 0 → is_at e i j ≡ false
at_off e i j z = go_on (is_at e i j) refl
  where
    go_on : (b : Bool) → is_at e i j ≡ b → is_at e i j ≡ false
    go_on false h = h
    go_on true h = absurd (omega (arith, here_at e i j h))

seek_miss : (n : ℕ) (es : List Found) (d : ℤ) (i j : ℕ) → cnt es i j ≡ 0 → lookup n es d i j ≡ d
seek_miss n [] d i j z = refl
seek_miss n (e ∷ es) d i j z = rw (at_off e i j (omega arith)) (seek_miss n es d i j (omega arith))

-- a found cell fits what it spells
value_fits : (g : Grid) (n : ℕ) (e : Found) → 0 < e.leading → g e.row e.column ≡ value n e → Fits g n e
unfolding value
value_fits g n e h q = record { size = ap (λ z. upper n (magnitude z)) q ∙ (ap (upper n) (mag_signed e.negative (e.leading * 2 ^ n)) ∙ upper_scaled n e.leading); side = ap is_negative q ∙ neg_signed e.negative (e.leading * 2 ^ n) (pos_of e.leading h) }
  where
    pos_of : (v : ℕ) → 0 < v → 0 < v * 2 ^ n
    pos_of zero x = absurd (omega arith)
    pos_of (suc v) x = omega (arith, pow_pos n)

fits_seek : (g : Grid) (n : ℕ) (es : List Found) (d : ℕ → ℕ → ℤ) → Some es → ((i j : ℕ) → cnt es i j ≤ 1) → ((i j : ℕ) → 0 < cnt es i j → g i j ≡ lookup n es (d i j) i j) → Known g n es
fits_seek g n [] d s u h = tt
fits_seek g n (e ∷ es) d s u h = (
  value_fits g n e s.0 (rw (here_self e) at (h e.row e.column (omega (arith, one_in e.row e.column)))),
  fits_seek g n es d s.1 (λ i j. omega (arith, u i j)) (λ i j x. rw (at_off e i j (omega (arith, u i j))) at (h i j (omega arith))),
)

upper_nil : (n : ℕ) → upper n 0 ≡ 0
upper_nil n = none_upper n 0 (pow_pos n)

base_fill : (g : Grid) (n : ℕ) (asks noes : List Part) (old new : List Found) → Some old → Some new → ((i j : ℕ) → cnt old i j + cnt new i j ≤ 1) → ((i j : ℕ) → 0 < cnt old i j + cnt new i j → g i j ≡ lookup (suc n) old (lookup n new (pos 0) i j) i j) → Insignificant g (suc n) asks → Insignificant g n noes → Base g n asks noes old new
base_fill g n asks noes old new so sn u f q z =
    record {
      waits = q;
      calm = z;
      known = fits_seek g (suc n) old (λ i j. lookup n new (pos 0) i j) so (λ i j. omega (arith, u i j)) (λ i j h. f i j (omega arith));
      fresh = fits_seek g n new (λ i j. pos 0) sn (λ i j. omega (arith, u i j)) (λ i j h. f i j (omega arith) ∙ seek_miss (suc n) old _ i j (omega (arith, u i j)));
    }

-- a cell that is not found reads 0
unread : (n m : ℕ) (old new : List Found) (i j : ℕ) → cnt old i j + cnt new i j ≡ 0 → lookup m old (lookup n new (pos 0) i j) i j ≡ pos 0
unread n m old new i j e = seek_miss m old _ i j (omega arith) ∙ seek_miss n new _ i j (omega arith)

-- a grid with one cell changed
unfoldable pub put : ℕ → ℕ → ℤ → Grid → Grid
put r c v g i j = cond (eqb r i && eqb c j) v (g i j)

put_cases : (r c : ℕ) (v : ℤ) (g : Grid) (i j : ℕ) (P : ℤ → Type 0) → (r ≡ i → c ≡ j → P v) → P (g i j) → P (put r c v g i j)
unfolding put
put_cases r c v g i j P a b = go_on (eqb r i && eqb c j) refl
  where
    go_on : (t : Bool) → (eqb r i && eqb c j) ≡ t → P (cond (eqb r i && eqb c j) v (g i j))
    go_on true e = let p = and_parts (eqb r i) (eqb c j) e in rw e (a (eqb-true r i p.0) (eqb-true c j p.1))
    go_on false e = rw e b

put_same : (r c : ℕ) (v : ℤ) (g : Grid) → put r c v g r c ≡ v
unfolding put
put_same r c v g = rw (and_from (eqb r r) (eqb c c) (eq-eqb r r refl) (eq-eqb c c refl))

-- each part has a cell
pub record Has (p : Part) : Type 0 where
  pub row : ℕ
  pub column : ℕ
  pub there : 0 < inside p row column

pub has : (p : Part) → Has p
has = part_ind Has one more
  where
    one : (r c : ℕ) → Has (Block 0 r c)
    one r c = record { row = r; column = c; there = omega (arith, one_in r c) }

    more : (p k : Part) (ks : List Part) → view p ≡ parts k ks → AllByRecursion Has (k ∷ ks) → Has p
    more p k ks e h =
        let m : Made p (parts k ks) = subst (Made p) e (made p) in
        record { row = h.0.row; column = h.0.column; there = omega (arith, h.0.there, m h.0.row h.0.column) }

unfoldable pub fill : State → Grid
fill (owing n p ps free noes old new) = put (has p).row (has p).column (pos (2 ^ n)) (known (owing n p ps free noes old new))
fill (asking n p free noes old new) = known (asking n p free noes old new)
fill (sign n r c free noes old new) = put r c (pos (2 ^ n)) (known (sign n r c free noes old new))
fill (refinement n e todo done noes new) = known (refinement n e todo done noes new)
fill (finished noes old) = known (finished noes old)

top_upper : (n : ℕ) → upper n (2 ^ n) ≡ 1
top_upper n = upper_is n (2 ^ n) 1 (omega arith) (omega (arith, pow_pos n))

-- the cell r c, in none of the lists, is put
put_base : (n r c : ℕ) (asks noes : List Part) (old new : List Found) → Some old → Some new → ((i j : ℕ) → coverage asks i j + (coverage noes i j + (cnt old i j + cnt new i j)) ≤ 1) → coverage noes r c + (cnt old r c + cnt new r c) ≡ 0 → Base (put r c (pos (2 ^ n)) (λ i j. lookup (suc n) old (lookup n new (pos 0) i j) i j)) n asks noes old new
put_base n r c asks noes old new so sn u z =
    base_fill g n asks noes old new so sn (λ i j. omega (arith, u i j)) reads quiet calm
  where
    g₀ : Grid
    g₀ = λ i j. lookup (suc n) old (lookup n new (pos 0) i j) i j

    g : Grid
    g = put r c (pos (2 ^ n)) g₀

    clear : (i j : ℕ) → 0 < coverage noes i j + (cnt old i j + cnt new i j) → r ≡ i → c ≡ j → ⊥
    clear i j h a b =
        let k : 0 < coverage noes r c + (cnt old r c + cnt new r c) = rw (a, b) h in
        omega arith

    reads : (i j : ℕ) → 0 < cnt old i j + cnt new i j → g i j ≡ g₀ i j
    reads i j h = put_cases r c (pos (2 ^ n)) g₀ i j (λ v. v ≡ g₀ i j) (λ a b. absurd (clear i j (omega arith) a b)) refl

    quiet : Insignificant g (suc n) asks
    quiet i j h = put_cases r c (pos (2 ^ n)) g₀ i j (λ v. upper (suc n) (magnitude v) ≡ 0) (λ a b. none_upper (suc n) (2 ^ n) (omega (arith, pow_pos n))) (rw (unread n (suc n) old new i j (omega (arith, u i j))) (upper_nil (suc n)))

    calm : Insignificant g n noes
    calm i j h = put_cases r c (pos (2 ^ n)) g₀ i j (λ v. upper n (magnitude v) ≡ 0) (λ a b. absurd (clear i j (omega arith) a b)) (rw (unread n (suc n) old new i j (omega (arith, u i j))) (upper_nil n))

pub filled : (s : State) → Sound s → ((i j : ℕ) → count s i j ≤ 1) → Possible s (fill s)
unfolding fill
filled (owing n p ps free noes old new) s u = (
  put_base n r c (p ∷ ps ++ free) noes old new s.0 s.1 (λ i j. omega (arith, u i j, coverage_append ps free i j)) (omega (arith, u r c, (has p).there)),
  record { row = r; column = c; there = omega (arith, (has p).there); big = rw (put_same r c (pos (2 ^ n)) (known (owing n p ps free noes old new)), top_upper n) (omega arith) },
)
  where
    r : ℕ
    r = (has p).row

    c : ℕ
    c = (has p).column
filled (asking n p free noes old new) s u =
    base_fill _ n (p ∷ free) noes old new s.0 s.1 (λ i j. omega (arith, u i j)) (λ i j h. refl)
    (λ i j h. rw (unread n (suc n) old new i j (omega (arith, u i j))) (upper_nil (suc n)))
    (λ i j h. rw (unread n (suc n) old new i j (omega (arith, u i j))) (upper_nil n))
filled (sign n r c free noes old new) s u = (
  put_base n r c free noes old new s.0 s.1 (λ i j. omega (arith, u i j)) (omega (arith, u r c, one_in r c)),
  rw (put_same r c (pos (2 ^ n)) (known (sign n r c free noes old new))) (top_upper n),
)
filled (refinement n e todo done noes new) s u =
    record {
      calm = λ i j h. rw (read0 i j (omega (arith, u i j))) (upper_nil n);
      known = fits_seek g (suc n) (e ∷ todo) (λ i j. lookup n done (lookup n new (pos 0) i j) i j) s.0 (λ i j. omega (arith, u i j)) (λ i j h. refl);
      refined = fits_seek g n done (λ i j. lookup n new (pos 0) i j) s.1 (λ i j. omega (arith, u i j)) (λ i j h. seek_miss (suc n) (e ∷ todo) _ i j (omega (arith, u i j)));
      fresh = fits_seek g n new (λ i j. pos 0) s.2 (λ i j. omega (arith, u i j)) (λ i j h. seek_miss (suc n) (e ∷ todo) _ i j (omega (arith, u i j)) ∙ seek_miss n done _ i j (omega (arith, u i j)));
    }
  where
    g : Grid
    g = known (refinement n e todo done noes new)

    read0 : (i j : ℕ) → cnt (e ∷ todo) i j + (cnt done i j + cnt new i j) ≡ 0 → g i j ≡ pos 0
    read0 i j z = seek_miss (suc n) (e ∷ todo) _ i j (omega arith) ∙ (seek_miss n done _ i j (omega arith) ∙ seek_miss n new _ i j (omega arith))
filled (finished noes old) s u =
    record { calm = λ i j h. rw (seek_miss 0 old (pos 0) i j (omega (arith, u i j))); known = fits_seek _ 0 old (λ i j. pos 0) s (λ i j. omega (arith, u i j)) (λ i j h. refl) }
