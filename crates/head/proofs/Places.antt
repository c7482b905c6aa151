use Rattle.std.proofs.Common.{◌≡◌, ℕ, ◌^◌, ◌<◌, Bool, true, false, IfSome, nat_lt, refl}
use Rattle.std.proofs.lemmas.Bool.{ltb-true}
use Rattle.head.specs.Heads.{place_of}
use Rattle.head.proofs.Squares.{place_in}

-- a cell that the map has lies among its places
pub place_within : (m i j : ℕ) → IfSome (place_of m i j) (λ p. p < 4 ^ m)
place_within m i j = by (nat_lt i (2 ^ m)) (nat_lt j (2 ^ m)) refl refl
  where
    by : (a b : Bool) → nat_lt i (2 ^ m) ≡ a → nat_lt j (2 ^ m) ≡ b → IfSome (place_of m i j) (λ p. p < 4 ^ m)
    by true true p q = rw (p, q) (place_in m i j (ltb-true i (2 ^ m) p) (ltb-true j (2 ^ m) q))
    by true false p q = rw (p, q) tt
    by false b p q = rw p tt
