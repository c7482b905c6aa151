use Rattle.std.proofs.Common.{◌≡◌, ℕ, ◌+◌, ◌-◌, ◌*◌, ◌/◌, ◌^◌, ◌<◌, ◌≤◌, ℤ, nat_abs, sym, refl, ap, arith, w32, to_z, of_z}
use lib.Signed.{mag}
use Rattle.std.proofs.lemmas.Int.{to_z-of_z}
use Rattle.std.proofs.lemmas.Nat.{shr-shr}
use Rattle.std.proofs.lemmas.Bool.Decides.{nat_tests}
use Rattle.transform.specs.Transform.{Grid, unlevels, undone}
use Rattle.transform.specs.Planes.{BelowPlanes}
use Rattle.transform.proofs.Cells.{cell}
use Rattle.heights.specs.Reading.{reading_at, block_of}
use Rattle.heights.proofs.Sides.{side_at, twice_next, square_in}

-- a coefficient that was read
pub read_in : (m : ℕ) (g : Grid) (i j : ℕ) → i < 2 ^ m → j < 2 ^ m → reading_at m g i j ≡ g i j
read_in m g i j p q = grind (arith, nat_tests)

pub read_small : (m : ℕ) (g : Grid) → BelowPlanes m g 15 → (i j : ℕ) (r : ℤ) → r ≡ reading_at m g i j → nat_abs r ≤ 32767
read_small m g small i j r e = grind (arith, nat_tests, small i j)

-- how a call's clause has a number that it was passed
pub cast_abs : (z : ℤ) → mag z < 2147483648 → nat_abs (to_z w32 (of_z w32 z)) ≡ nat_abs z
cast_abs z h = ap nat_abs (to_z-of_z w32 z (record { sfits = h }))

-- With t levels still to undo, v is the height of the square that the cell lies in.
pub record Walked (m k row column : ℕ) (g : Grid) (t : ℕ) (v : ℤ) : Type 0 where
  pub here : v ≡ unlevels (k - t) (2 ^ (m - t)) g (row / 2 ^ t) (column / 2 ^ t)
  pub bound : nat_abs v ≤ 32767 + (k - t) * 40960

pub walked_more : (m k row column s : ℕ) (g : Grid) (t : ℕ) (v r : ℤ) → Walked m k row column g t v → 0 < t → t ≤ k → k ≤ m → s ≡ 2 ^ m → row < 2 ^ m → column < 2 ^ m →
    r ≡ block_of (s / 2 ^ (t - 1 + 1)) g v (row / 2 ^ (t - 1)) (column / 2 ^ (t - 1)) → nat_abs r ≤ nat_abs v + 40960 → Walked m k row column g (t - 1) r
walked_more m k row column s g t v r inv some tk km es rl cl e b =
    let u : ℕ = t - 1 in
    let n : t ≡ u + 1 = omega arith in
    let h : ℕ = s / 2 ^ (u + 1) in
    let w : 2 ^ (m - u) ≡ 2 * h = rw es (sym (twice_next m u (omega arith))) in
    let em : 2 ^ (m - (u + 1)) ≡ h = rw es (sym (side_at m (u + 1) (omega arith))) in
    let ek : k - (u + 1) ≡ k - u - 1 = omega arith in
    let above : v ≡ unlevels (k - u - 1) h g (row / 2 ^ u / 2) (column / 2 ^ u / 2) = rw (shr-shr row u 1, shr-shr column u 1, ← ek, ← em) (rw n at inv.here) in
    let bv = inv.bound in
    record {
      here = cell (k - u) (2 ^ (m - u)) h g (row / 2 ^ u) (column / 2 ^ u) v _ _ _ r (omega arith) w (square_in m u row (omega arith) rl) (square_in m u column (omega arith) cl) above refl refl refl e;
      bound = omega arith;
    }

pub walked_all : (m k row column : ℕ) (g : Grid) (t : ℕ) (v : ℤ) → t ≡ 0 → k ≤ 6 → Walked m k row column g t v → (v ≡ undone m k g row column) × (nat_abs v ≤ 278527)
unfolding undone
walked_all m k row column g t v z le inv =
    let a : k - t ≡ k = omega arith in
    let b : m - t ≡ m = omega arith in
    let c : row / 2 ^ t ≡ row = rw z (omega arith) in
    let d : column / 2 ^ t ≡ column = rw z (omega arith) in
    (rw (a, b, c, d) at inv.here, let s = inv.bound in omega arith)
