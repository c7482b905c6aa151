-- A number without its lowest bits, and signs.
use Rattle.std.proofs.Common.{◌≡◌, ℕ, zero, suc, ◌+◌, ◌*◌, ◌/◌, ◌^◌, ◌<◌, ◌≤◌, Bool, true, false, ℤ, pos, negsuc, ◌-ℤ◌, sym, refl, ap, ◌∙◌, pow-suc, div-one, arith, pow_pos}
use native.Mathlib.Nat.{div-div-eq-div-mul, div-eq_of_lt-le}
use Rattle.std.proofs.lemmas.Int.{ints}
use Rattle.speck.specs.Grid.{magnitude, is_negative, signed, upper}

pub upper_div : (n x : ℕ) → upper n x ≡ x / 2 ^ n
upper_div zero x = sym (div-one x)
upper_div (suc n) x = ap (λ y. y / 2) (upper_div n x) ∙ (div-div-eq-div-mul x (2 ^ n) 2 ∙ ap (λ y. x / y) (sym (pow-suc 2 n)))

pub upper_low : (n x : ℕ) → upper n x * 2 ^ n ≤ x
upper_low n x = rw (upper_div n x) (omega (arith, pow_pos n))

pub upper_high : (n x : ℕ) → x < upper n x * 2 ^ n + 2 ^ n
upper_high n x = rw (upper_div n x) (omega (arith, pow_pos n))

pub upper_is : (n x v : ℕ) → v * 2 ^ n ≤ x → x < v * 2 ^ n + 2 ^ n → upper n x ≡ v
upper_is n x v h k = upper_div n x ∙ div-eq_of_lt-le (2 ^ n) h (omega arith)

pub upper_none : (n x : ℕ) → upper n x ≡ 0 → x < 2 ^ n
upper_none n x e = omega (arith, rw e at (upper_high n x))

pub none_upper : (n x : ℕ) → x < 2 ^ n → upper n x ≡ 0
none_upper n x h = upper_is n x 0 (omega arith) (omega arith)

pub upper_some : (n x : ℕ) → 0 < upper n x → 2 ^ n ≤ x
upper_some n x h = some (upper n x) h (upper_low n x)
  where
    some : (v : ℕ) → 0 < v → v * 2 ^ n ≤ x → 2 ^ n ≤ x
    some zero h k = absurd (omega arith)
    some (suc v) h k = omega arith

pub some_upper : (n x : ℕ) → 2 ^ n ≤ x → 0 < upper n x
some_upper n x h = some (upper n x) (upper_high n x)
  where
    some : (v : ℕ) → x < v * 2 ^ n + 2 ^ n → 0 < v
    some zero k = absurd (omega arith)
    some (suc v) k = omega arith

pub upper_scaled : (n v : ℕ) → upper n (v * 2 ^ n) ≡ v
upper_scaled n v = upper_is n (v * 2 ^ n) v (omega arith) (omega (arith, pow_pos n))

-- a number is its sign and its magnitude
pub signed_eta : (z : ℤ) → signed (is_negative z) (magnitude z) ≡ z
signed_eta (pos n) = refl
signed_eta (negsuc n) = refl

pub mag_signed : (b : Bool) (x : ℕ) → magnitude (signed b x) ≡ x
mag_signed false x = refl
mag_signed true zero = refl
mag_signed true (suc x) = refl

pub neg_signed : (b : Bool) (x : ℕ) → 0 < x → is_negative (signed b x) ≡ b
neg_signed false x h = refl
neg_signed true zero h = absurd (omega arith)
neg_signed true (suc x) h = refl

pub apart : (b : Bool) (x y q : ℕ) → x ≤ y → y < x + q → magnitude (signed b x -ℤ signed b y) < q
apart false x y q h k = omega (arith, ints)
apart true zero zero q h k = omega (arith, ints)
apart true zero (suc y) q h k = omega (arith, ints)
apart true (suc x) zero q h k = omega (arith, ints)
apart true (suc x) (suc y) q h k = omega (arith, ints)

-- what is not found reads 0
pub apart_zero : (z : ℤ) (q : ℕ) → magnitude z < q → magnitude (pos 0 -ℤ z) < q
apart_zero z q h = omega (arith, ints)
