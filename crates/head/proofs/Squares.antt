use Rattle.std.proofs.Common.{◌≡◌, ℕ, zero, suc, ◌+◌, ◌*◌, ◌/◌, ◌%◌, ◌^◌, ◌<◌, ◌≤◌, refl, pow-suc, arith, pow_mono}
use Rattle.std.proofs.lemmas.Nat.{mul-add-lt, pow_pos, div_below, mod_below}

pub side_small : (m : ℕ) → m ≤ 6 → 2 ^ m ≤ 64
side_small m h = pow_mono h

-- a square of side 2^m has 4^m cells
pub area : (m : ℕ) → 2 ^ m * 2 ^ m ≡ 4 ^ m
area zero = refl
area (suc m) = let ih = area m in rw (pow-suc 4 m, pow-suc 2 m) (omega arith)

-- the place of a cell in row order, and the cell of a place
pub place_in : (m i j : ℕ) → i < 2 ^ m → j < 2 ^ m → i * 2 ^ m + j < 4 ^ m
place_in m i j p q = rw (← area m) (mul-add-lt i (2 ^ m) j (2 ^ m) p q)

pub cell_in : (m p : ℕ) → p < 4 ^ m → (p / 2 ^ m < 2 ^ m) × (p % 2 ^ m < 2 ^ m)
cell_in m p h = let l : p < 2 ^ m * 2 ^ m = rw (area m) h in (div_below p (2 ^ m) (2 ^ m) (pow_pos m) l, mod_below p (2 ^ m) (pow_pos m))
