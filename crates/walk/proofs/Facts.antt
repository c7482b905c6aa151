-- Parts and their parts, and the room for them.
use Rattle.std.proofs.Common.{◌≡◌, ℕ, zero, suc, ◌+◌, ◌-◌, ◌*◌, ◌^◌, ◌<◌, ◌≤◌, List, [], ◌∷◌, length, sum_by, zero-add, add-one, refl, ap, ◌∙◌, subst, arith, pow_mono}
use Rattle.std.proofs.lemmas.List.Sums.{sum_by-append, sum_by-cons}
use native.Mathlib.Nat.{pow-succ'}
use Rattle.speck.specs.declared.Part.{Part}
use Rattle.speck.specs.declared.Part.TheVariants.{Block, Rest}
use Rattle.speck.specs.Grid.{parts, view, outside}
use Rattle.std.specs.List.{AllByRecursion}
use Rattle.walk.specs.Parts.{Within, ring, area}

four_pos : (s : ℕ) → 0 < 4 ^ s
four_pos zero = omega arith
four_pos (suc s) = omega (arith, pow-succ' 4 s, four_pos s)

pub ring_pos : (d x : ℕ) → 0 < ring d x
ring_pos zero x = omega (arith, four_pos x)
ring_pos (suc d) x = omega (arith, four_pos x)

pub area_pos : (p : Part) → 0 < area p
area_pos (Block s r c) = four_pos s
area_pos (Rest d x) = ring_pos d x

pub length_areas : (ps : List Part) → length ps ≤ sum_by area ps
length_areas [] = omega arith
length_areas (p ∷ ps) = omega (arith, sum_by-cons area p ps, area_pos p, length_areas ps)

-- a part that is no cell, and its parts
pub record Spreads (p a : Part) (ks : List Part) : Type 0 where
  pub shown : view p ≡ parts a ks
  pub size : area p ≡ area a + sum_by area ks
  pub first : Within a
  pub others : AllByRecursion Within ks

pub spread_suc : (t r c : ℕ) → Within (Block (suc t) r c) → Spreads (Block (suc t) r c) (Block t r c) (Block t r (c + 2 ^ t) ∷ Block t (r + 2 ^ t) c ∷ Block t (r + 2 ^ t) (c + 2 ^ t) ∷ [])
spread_suc t r c w =
    let e : 2 ^ suc t ≡ 2 * 2 ^ t = pow-succ' 2 t in
    let f : 4 ^ suc t ≡ 4 * 4 ^ t = pow-succ' 4 t in
    record { shown = refl; size = omega arith; first = (omega (arith, w.0), omega (arith, w.1), omega (arith, w.2)); others = ((omega (arith, w.0), omega (arith, w.1), omega (arith, w.2)), ((omega (arith, w.0), omega (arith, w.1), omega (arith, w.2)), ((omega (arith, w.0), omega (arith, w.1), omega (arith, w.2)), tt))) }

pub spread_block : (p : Part) (s r c : ℕ) → p ≡ Block s r c → 0 < s → Within p → Spreads p (Block (s - 1) r c) (Block (s - 1) r (c + 2 ^ (s - 1)) ∷ Block (s - 1) (r + 2 ^ (s - 1)) c ∷ Block (s - 1) (r + 2 ^ (s - 1)) (c + 2 ^ (s - 1)) ∷ [])
spread_block p s r c e h w =
    let q : p ≡ Block (suc (s - 1)) r c = e ∙ ap (λ x. Block x r c) (omega arith) in
    rw q (spread_suc (s - 1) r c (subst Within q w))

pub outside_within : (d x : ℕ) → x + d ≤ 6 → AllByRecursion Within (outside d x)
outside_within zero x h = tt
outside_within (suc d) x h = (omega arith, tt)

ring_outside : (d x : ℕ) → ring d x ≡ 3 * 4 ^ x + sum_by area (outside d (suc x))
ring_outside zero x = omega arith
ring_outside (suc d) x = omega arith

pub spread_out : (d x : ℕ) → Within (Rest d x) → Spreads (Rest d x) (Block x 0 (2 ^ x)) (Block x (2 ^ x) 0 ∷ Block x (2 ^ x) (2 ^ x) ∷ outside d (suc x))
spread_out d x w =
    let a : 2 ^ suc x ≤ 2 ^ 6 = pow_mono {i = suc x} {j = 6} (omega arith) in
    let b : 2 ^ suc x ≡ 2 * 2 ^ x = pow-succ' 2 x in
    let s = sum_by-append area (Block x (2 ^ x) 0 ∷ Block x (2 ^ x) (2 ^ x) ∷ []) (outside d (suc x)) in
    record { shown = refl; size = omega (arith, ring_outside d x); first = (omega arith, omega arith, omega arith); others = ((omega arith, omega arith, omega arith), ((omega arith, omega arith, omega arith), outside_within d (suc x) (omega arith))) }

pub spread_rest : (p : Part) (d x : ℕ) → p ≡ Rest d x → Within p → Spreads p (Block x 0 (0 + 2 ^ x)) (Block x (0 + 2 ^ x) 0 ∷ Block x (0 + 2 ^ x) (0 + 2 ^ x) ∷ outside d (x + 1))
spread_rest p d x e w = rw (e, zero-add, add-one) (spread_out d x (subst Within e w))

-- the square and what lies outside of it
ring_all : (d x : ℕ) → 4 ^ x + ring d x ≡ 4 ^ (x + suc d)
ring_all zero x = let e : x + 1 ≡ suc x = omega arith in rw e (omega (arith, pow-succ' 4 x))
ring_all (suc d) x = let e : x + suc (suc d) ≡ suc x + suc d = omega arith in rw e (omega (arith, ring_all d (suc x), pow-succ' 4 x))

pub outside_all : (d x : ℕ) → 4 ^ x + sum_by area (outside d x) ≡ 4 ^ (x + d)
outside_all zero x = let e : x + 0 ≡ x = omega arith in rw e (omega arith)
outside_all (suc d) x = omega (arith, ring_all d x)
