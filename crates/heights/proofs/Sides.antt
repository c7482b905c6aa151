use Rattle.std.proofs.Common.{◌≡◌, ℕ, suc, ◌+◌, ◌-◌, ◌*◌, ◌/◌, ◌%◌, ◌^◌, ◌<◌, ◌≤◌, List, get_or, ℤ, pos, nat_abs, ap, ◌∙◌, pow-suc, arith}
use Rattle.std.proofs.lemmas.Nat.{div-add-mod', pow-add, shl-shr, shr_below}
use Rattle.head.proofs.Squares.{cell_in}
use Rattle.transform.specs.Transform.{On, grid_of}

-- the side of the square that t levels leave of a map of side 2^m
pub side_at : (m t : ℕ) → t ≤ m → 2 ^ m / 2 ^ t ≡ 2 ^ (m - t)
side_at m t l = let e : m ≡ (m - t) + t = omega arith in ap (λ x. 2 ^ x / 2 ^ t) e ∙ ap (λ x. x / 2 ^ t) (pow-add 2 (m - t) t) ∙ shl-shr (2 ^ (m - t)) t

-- twice the side of the next one
pub twice_next : (m t : ℕ) → t < m → 2 * (2 ^ m / 2 ^ (t + 1)) ≡ 2 ^ (m - t)
twice_next m t l = let d : m - t ≡ suc (m - (t + 1)) = omega arith in let p = pow-suc 2 (m - (t + 1)) in rw (side_at m (t + 1) (omega arith), d) (omega arith)

pub side_even : (m t : ℕ) → t < m → 2 ^ m / 2 ^ t % 2 ≡ 0
side_even m t l = rw (side_at m t (omega arith), ← twice_next m t l) (omega arith)

-- the cell of that square that a cell of the map lies in
pub square_in : (m t x : ℕ) → t ≤ m → x < 2 ^ m → x / 2 ^ t < 2 ^ (m - t)
square_in m t x l h = let e : m ≡ (m - t) + t = omega arith in shr_below x (m - t) t (rw e at h)

-- what is below n at each cell of a list's grid is so at each place of the list
pub at_places : (m n : ℕ) (xs : List ℤ) → On (2 ^ m) (λ i j. nat_abs (grid_of m xs i j) < n) → (p : ℕ) → p < 4 ^ m → nat_abs (get_or xs p (pos 0)) < n
at_places m n xs below p l = let c = cell_in m p l in rw (← div-add-mod' p (2 ^ m)) (below (p / 2 ^ m) (p % 2 ^ m) c.0 c.1)
