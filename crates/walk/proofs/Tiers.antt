-- One pass over the parts, from the last to the first.
use Rattle.std.proofs.Common.{◌≡◌, ℕ, zero, suc, ◌+◌, ◌-◌, ◌<◌, ◌≤◌, List, [], ◌∷◌, ◌++◌, length, sym, ap, ◌∙◌, append_assoc, add-zero, zero-add, arith, length-append}
use Rattle.std.proofs.lemmas.List.Sorted.{length_permutation}
use Rattle.speck.specs.declared.Part.{Part}
use Rattle.speck.specs.declared.Part.TheVariants.{Block, Rest}
use Rattle.speck.specs.Survey.{arranged, of_side, rests, tiers, Below}
use Rattle.std.specs.List.{AllByRecursion}
use Rattle.walk.specs.Parts.{Within}
use Rattle.speck.proofs.Arrange.{arranges}
use Rattle.speck.proofs.Lists.{arranged_moves}

pub below : (l : List Part) → AllByRecursion Within l → Below 7 l
below [] a = tt
below (Block s r c ∷ l) a = (omega (arith, a.0.0), below l a.1)
below (Rest d x ∷ l) a = below l a.1

length_tiers : (a k : ℕ) (l : List Part) → length (tiers (suc a) k l) + length (of_side a l) ≡ length (tiers a (suc k) l)
length_tiers a k l = omega (arith, length-append (of_side a l) (tiers (suc a) k l))

-- the tiers from a on are no longer than all
pub tiers_part : (a b k : ℕ) (l : List Part) → length (tiers (a + b) k l) ≤ length (tiers b (a + k) l)
tiers_part zero b k l = rw (zero-add, zero-add) (omega arith)
tiers_part (suc a) b k l =
    let h = tiers_part a (suc b) k l in
    let e : suc a + b ≡ a + suc b = omega arith in
    let n : suc a + k ≡ suc (a + k) = omega arith in
    rw (e, n) (omega (arith, length_tiers b (a + k) l))

pub whole : (l : List Part) → AllByRecursion Within l → length (tiers 0 7 l) + length (rests l) ≡ length l
whole l a = sym (length-append (tiers 0 7 l) (rests l)) ∙ ap length (sym (arranges 7 l (below l a))) ∙ length_permutation l (arranged l) (arranged_moves l)

pub next_tier : (s : ℕ) (l : List Part) → 0 < s → s ≤ 7 → tiers (s - 1) (7 - (s - 1)) l ≡ of_side (s - 1) l ++ tiers s (7 - s) l
next_tier s l h k =
    let e : 7 - (s - 1) ≡ suc (7 - s) = omega arith in
    let f : suc (s - 1) ≡ s = omega arith in
    ap (λ n. tiers (s - 1) n l) e ∙ ap (λ n. of_side (s - 1) l ++ tiers n (7 - s) l) f

pub tier_room : (s : ℕ) (l : List Part) → 0 < s → s ≤ 7 → AllByRecursion Within l → length (of_side (s - 1) l) + length (tiers s (7 - s) l ++ rests l) ≤ length l
tier_room s l h k w =
    let a = length-append (tiers s (7 - s) l) (rests l) in
    let b : length (tiers (s - 1) (7 - (s - 1)) l) ≡ length (of_side (s - 1) l) + length (tiers s (7 - s) l) = ap length (next_tier s l h k) ∙ length-append _ _ in
    let n : s - 1 + (7 - (s - 1)) ≡ 7 = omega arith in
    let m : length (tiers (s - 1) (7 - (s - 1)) l) ≤ length (tiers 0 7 l) = rw (add-zero, n) at (tiers_part (s - 1) 0 (7 - (s - 1)) l) in
    omega (arith, whole l w)

pub tier_more : (s : ℕ) (l : List Part) → 0 < s → s ≤ 7 → of_side (s - 1) l ++ (tiers s (7 - s) l ++ rests l) ≡ tiers (s - 1) (7 - (s - 1)) l ++ rests l
tier_more s l h k = sym (append_assoc (of_side (s - 1) l) (tiers s (7 - s) l) (rests l)) ∙ ap (λ t. t ++ rests l) (sym (next_tier s l h k))

pub tier_all : (s : ℕ) (l : List Part) → s ≤ 0 → AllByRecursion Within l → tiers s (7 - s) l ++ rests l ≡ arranged l
tier_all s l h w =
    let z : s ≡ 0 = omega arith in
    ap (λ n. tiers n (7 - n) l ++ rests l) z ∙ sym (arranges 7 l (below l w))
