use Rattle.std.proofs.Common.{◌≡◌, ℕ, suc, ◌+◌, ◌-◌, ◌*◌, ◌^◌, ◌<◌, ◌≤◌, List, length, get_or, ℤ, pos, nat_abs, inl, inr, arith, pow_mono}
use lib.Count.{count_leading_zeros}
use Rattle.std.proofs.lemmas.Bool.{cases_lt}
use Rattle.std.proofs.lemmas.Nat.{leading_length, pow_pos}
use Rattle.head.proofs.Squares.{place_in}
use Rattle.transform.specs.Transform.{grid_of}
use Rattle.transform.specs.Planes.{PlaneCount}
use Rattle.heights.specs.Coefficients.{Top}
use Rattle.heights.proofs.Sides.{at_places}

-- the binary digits of n
pub digits : (n r : ℕ) → n < 2 ^ 32 → r + count_leading_zeros 32 n ≡ 32 → (n < 2 ^ r) × ((p : ℕ) → n < 2 ^ p → r ≤ p)
digits n r h e =
    let l = leading_length 32 n h in
    let q : l.0 ≡ r = omega (arith, l.1) in
    let a : n < 2 ^ r = rw q at l.2 in
    let b : 2 ^ r ≤ 2 * n + 1 = rw q at l.3 in
    (a, λ p c. elim (cases_lt p r) [ inr d ↦ d | inl d ↦ absurd (let m : 2 ^ suc p ≤ 2 ^ r = pow_mono d in omega arith) ])

-- the digits of the largest magnitude are the planes of the grid
pub planes_of_top : (m : ℕ) (xs : List ℤ) (t r : ℕ) → length xs ≡ 4 ^ m → Top xs t → t < 2 ^ r → ((p : ℕ) → t < 2 ^ p → r ≤ p) → PlaneCount m (grid_of m xs) r
planes_of_top m xs t r e top a b = record {
  enough = λ i j p q. let l = top.bounds (i * 2 ^ m + j) (omega (arith, place_in m i j p q)) in omega arith;
  least = λ n h. b n (let s = pow_pos n in let l = top.least (2 ^ n - 1) (λ p l. omega (arith, at_places m (2 ^ n) xs h p (omega arith))) in omega arith);
}

-- what is below 2^15 everywhere has at most 15 digits
pub top_fits : (xs : List ℤ) (t r : ℕ) → ((p : ℕ) → nat_abs (get_or xs p (pos 0)) < 2 ^ 15) → Top xs t → ((p : ℕ) → t < 2 ^ p → r ≤ p) → r ≤ 15
top_fits xs t r small top b = b 15 (let l = top.least 32767 (λ p l. let s = small p in omega arith) in omega arith)
