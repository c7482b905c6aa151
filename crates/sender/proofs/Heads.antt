-- A grid whose planes a head counts has that head's surveys.
use Rattle.std.proofs.Common.{◌≡◌, ℕ, zero, suc, ◌+◌, ◌-◌, ◌/◌, ◌^◌, ◌<◌, ◌≤◌, true, ◌&&◌, leb, length, nat_abs, sym, refl, ap, ◌∙◌, subst, arith}
use Rattle.ground.specs.declared.bare.BareGrid.{BareGrid}
use Rattle.heights.specs.Coefficients.{coefficients_of}
use Rattle.ground.proofs.Parts.{exponent_lt}
use Rattle.std.proofs.lemmas.List.{take_all}
use Rattle.std.proofs.lemmas.Bool.{and_from, le-leb, lt-ltb}
use Rattle.ground.specs.Tells.{bit_told}
use Rattle.head.specs.Heads.{inside}
use Rattle.head.specs.declared.Head.{Head}
use Rattle.head.specs.declared.Shape.{Shape}
use Rattle.speck.specs.Places.{placed}
use Rattle.speck.specs.Receiver.{Headed, InGrid, Top}
use Rattle.speck.specs.Survey.{bit_of, odd, survey}
use Rattle.speck.proofs.About.{of_cells}
use Rattle.speck.proofs.Consequences.{one_count}
use Rattle.speck.proofs.Length.{survey_length}
use Rattle.speck.proofs.Upper.{upper_div}
use Rattle.transform.specs.Planes.{BelowPlanes, PlaneCount}
use Rattle.transform.specs.Transform.{Grid, On}
use Rattle.sender.specs.Frames.{BothGroundsAlike, OneSurvey, SendsFrame, transform_of}
use Rattle.sender.specs.Sending.{survey_of}

-- The least plane count is the one that some magnitude reaches.
headed_below : (m P : ℕ) (g : Grid) → Headed m P g → BelowPlanes m g P
headed_below m P g h i j p q = h.below i j (record { row = p; column = q })

not_above : (m P Q : ℕ) (g : Grid) → BelowPlanes m g P → Top m Q g → Q ≤ P
not_above m P zero g b t = omega arith
not_above m P (suc q) g b t =
    let l = b t.0 t.1 t.2.row t.2.column in
    exponent_lt q P (omega (arith, t.3))

pub counted_headed : (m P : ℕ) (g : Grid) → PlaneCount m g P → Headed m P g
counted_headed m P g c =
    let o = (one_count m g).0 in
    let l = c.least o.0 (headed_below m o.0 g o.1) in
    let k = not_above m P o.0 g c.enough o.1.top in
    let e : o.0 ≡ P = omega arith in
    subst (λ n. Headed m n g) e o.1

-- the same for a shape's grid, whose side exponent is that of its first block and its levels
pub shape_headed : (s : Shape) (P : ℕ) (g : Grid) → PlaneCount s.exponent g P → Headed ((s.exponent - s.levels) + s.levels) P g
shape_headed s P g c = let e : s.exponent ≡ (s.exponent - s.levels) + s.levels = omega (arith, s.within) in subst (λ m. Headed m P g) e (counted_headed s.exponent P g c)

pub never_longer : (h : Head) (g : Grid) → length (survey_of h g) ≤ 86101
never_longer h g = survey_length (h.shape.exponent - h.shape.levels) h.shape.levels h.planes g (omega (arith, h.shape.within, h.shape.small)) h.few

-- grids that agree have one plane count and one survey
module _ (s : Shape) (P : ℕ) (g t : Grid) (agree : On (2 ^ s.exponent) (λ i j. g i j ≡ t i j)) where
  same_count : PlaneCount s.exponent g P → PlaneCount s.exponent t P
  same_count c = record {
    enough = λ i j p q. subst (λ z. nat_abs z < 2 ^ P) (agree i j p q) (c.enough i j p q);
    least = λ n b. c.least n (λ i j p q. subst (λ z. nat_abs z < 2 ^ n) (sym (agree i j p q)) (b i j p q));
  }

  same_survey : PlaneCount s.exponent g P → survey (s.exponent - s.levels) s.levels P g ≡ survey (s.exponent - s.levels) s.levels P t
  same_survey c =
      let e : 2 ^ ((s.exponent - s.levels) + s.levels) ≡ 2 ^ s.exponent = ap (λ m. 2 ^ m) (omega_m s) in
      of_cells (s.exponent - s.levels) s.levels P g t (shape_headed s P g c) (λ i j w. agree i j (omega (arith, w.row)) (omega (arith, w.column)))
    where
      omega_m : (s : Shape) → (s.exponent - s.levels) + s.levels ≡ s.exponent
      omega_m s = omega (arith, s.within)

pub sends_frame : (h : Head) (g : Grid) → PlaneCount h.shape.exponent g h.planes → SendsFrame h g
sends_frame h g c f o =
    let P = h.planes in
    let d : PlaneCount f.shape.exponent g P = subst (λ (s : Shape). PlaneCount s.exponent g P) o.shape c in
    record {
      planes = P;
      counted = same_count f.shape P g (transform_of f) o.transformed d;
      surveyed = ap (λ (s : Shape). survey (s.exponent - s.levels) s.levels P g) o.shape ∙ same_survey f.shape P g (transform_of f) o.transformed d;
    }

-- a frame has one survey
headed_counted : (m P : ℕ) (g : Grid) → Headed m P g → PlaneCount m g P
headed_counted m P g h = record { enough = headed_below m P g h; least = λ p b. not_above m p P g b h.top }

same_planes : (m P Q : ℕ) (g : Grid) → PlaneCount m g P → PlaneCount m g Q → P ≡ Q
same_planes m P Q g c d = omega (arith, c.least Q d.enough, d.least P c.enough)

pub one_survey : OneSurvey
one_survey f =
    let s = f.shape in
    let o = (one_count s.exponent (transform_of f)).0 in (
      (survey (s.exponent - s.levels) s.levels o.0 (transform_of f), record { planes = o.0; counted = headed_counted s.exponent o.0 (transform_of f) o.1; surveyed = refl }),
      λ bits bits' a b. a.surveyed ∙ (ap (λ P. survey (s.exponent - s.levels) s.levels P (transform_of f)) (same_planes s.exponent a.planes b.planes (transform_of f) a.counted b.counted) ∙ sym b.surveyed),
    )

bare_counted : (b : BareGrid) → PlaneCount b.head.shape.exponent (coefficients_of b.coefficients) b.head.planes
bare_counted b = record { enough = b.enough; least = b.least }

pub both_alike : BothGroundsAlike
both_alike f b p u v =
    let x = sends_frame b.head (coefficients_of b.coefficients) (bare_counted b) f u in
    let y = sends_frame p.bare.head (coefficients_of p.bare.coefficients) (bare_counted p.bare) f v in
    let bits = survey_of b.head (coefficients_of b.coefficients) in
    record { bits = bits; surveyed = x; bare = refl; peak = (one_survey f).1 _ bits y x; whole = take_all 86101 bits (never_longer b.head (coefficients_of b.coefficients)) }

-- the bit of a cell of the grid
pub bit_told_is : (m : ℕ) (g : Grid) (r c n : ℕ) → InGrid m r c → n ≤ 14 → bit_told m g r c n ≡ bit_of g n (placed r c)
bit_told_is m g r c n w l =
    let e : inside m r c ≡ true = and_from _ _ (lt-ltb r (2 ^ m) w.row) (lt-ltb c (2 ^ m) w.column) in
    ap (λ b. b && (leb n 14 && odd (nat_abs (g r c) / 2 ^ n))) e
    ∙ (ap (λ b. b && odd (nat_abs (g r c) / 2 ^ n)) (le-leb n 14 l) ∙ ap odd (sym (upper_div n (nat_abs (g r c)))))
