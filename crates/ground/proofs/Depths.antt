-- A block named by its depth d is one of side 2^(m - d).
use Rattle.std.proofs.Common.{◌≡◌, ℕ, ◌+◌, ◌-◌, ◌*◌, ◌^◌, ◌<◌, ◌≤◌, List, sym, ap, arith}
use Rattle.speck.specs.Grid.{Grid}
use Rattle.ground.specs.Peaks.{Filled, InTree, above, peak_of, place_at}

back : (m d : ℕ) → d ≤ m → m - (m - d) ≡ d
back m d h = omega arith

pub depth_tree : (m d i j : ℕ) → d ≤ m → i < 2 ^ d → j < 2 ^ d → InTree m (m - d) i j
depth_tree m d i j h p q = let e = ap (λ k. 2 ^ k) (back m d h) in record { side = omega arith; row = omega arith; column = omega arith }

pub depth_place : (m d i j : ℕ) → d ≤ m → above d + (i * 2 ^ d + j) ≡ place_at m (m - d) i j
depth_place m d i j h = ap (λ k. above k + (i * 2 ^ k + j)) (sym (back m d h))

-- what was filled in for a block, by equal names
pub record Done (m : ℕ) (g : Grid) (s i j peak : ℕ) (old new : List ℕ) : Type 0 where
  pub value : peak ≡ peak_of g s i j
  pub filled : Filled m g s i j old new

pub renamed : (m : ℕ) (g : Grid) (s i j s' i' j' peak : ℕ) (old new : List ℕ) → s ≡ s' → i ≡ i' → j ≡ j' → peak ≡ peak_of g s i j → Filled m g s i j old new → Done m g s' i' j' peak old new
renamed m g s i j s' i' j' peak old new e p q v f =
    let v' : peak ≡ peak_of g s' i' j' = rw (e, p, q) at v in
    let f' : Filled m g s' i' j' old new = rw (e, p, q) at f in
    record { value = v'; filled = f' }
