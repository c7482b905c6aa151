-- Bits written into a buffer, and read again.
use Rattle.std.proofs.Common.{◌≡◌, ℕ, zero, suc, ◌+◌, ◌-◌, ◌*◌, ◌/◌, ◌%◌, ◌^◌, ◌<◌, ◌≤◌, Bool, true, false, eqb, ◌⊎◌, List, [], ◌∷◌, ◌++◌, length, get_or, take, drop, set, sym, refl, ap, ◌∙◌, subst, ⊎_elim, mul_assoc, add-mul, suc-add, zero-add, mul-one, div-one, mul_left_comm, arith}
use native.Mathlib.Nat.{pow-succ', div-div-eq-div-mul}
use lib.Bits.{bit_or}
use Rattle.std.proofs.lemmas.Bool.Decides.{nat_tests}
use Rattle.std.proofs.lemmas.List.{get_or_append_left, length-append, ext_get_or, get_or_past, get_or_push, length_push, length-set, get_or-set_same, get_or-set_other, length-drop, get_or-append_right, get_or-drop}
use Rattle.std.proofs.lemmas.Nat.{pow_below, or_shifted}
use Rattle.std.proofs.lemmas.List.FromFn.{get_or-map-range_with_len, length-map-range_with_len}
use Rattle.bits.specs.Bits.{Written, begun, bits_of, byte_at, bytes_for, digit, marked, number, overwritten, packed, with_bit}
use Rattle.bits.proofs.Fronts.{length_first, bit_first}

digit_below : (b : Bool) → digit b < 2
digit_below true = omega arith
digit_below false = omega arith

digit_back : (b : Bool) → eqb (digit b) 1 ≡ b
digit_back true = refl
digit_back false = refl

-- the high bits of a number, and the last of them
number_high : (ts : List Bool) (a n m : ℕ) → number ts a (m + n) / 2 ^ m ≡ number ts a n
number_high ts a n zero = ap (λ k. number ts a k / 1) (zero-add n) ∙ div-one (number ts a n)
number_high ts a n (suc m) =
    let x = number ts a (m + n) in
    let d = digit (get_or ts (a + (m + n)) false) in
    let half : (2 * x + d) / 2 ≡ x = omega (arith, digit_below (get_or ts (a + (m + n)) false)) in
    ap (λ k. number ts a k / 2 ^ suc m) (suc-add m n)
    ∙ ap (λ k. (2 * x + d) / k) (pow-succ' 2 m)
    ∙ sym (div-div-eq-div-mul (2 * x + d) 2 (2 ^ m))
    ∙ ap (λ k. k / 2 ^ m) half
    ∙ number_high ts a n m

number_bit : (ts : List Bool) (a j : ℕ) → j < 8 → eqb (number ts a 8 / 2 ^ (7 - j) % 2) 1 ≡ get_or ts (a + j) false
number_bit ts a j h =
    let e : (7 - j) + suc j ≡ 8 = omega arith in
    let high = ap (λ k. number ts a k / 2 ^ (7 - j)) (sym e) ∙ number_high ts a (suc j) (7 - j) in
    let last : (2 * number ts a j + digit (get_or ts (a + j) false)) % 2 ≡ digit (get_or ts (a + j) false) = omega (arith, digit_below (get_or ts (a + j) false)) in
    ap (λ x. eqb (x % 2) 1) high ∙ ap (λ x. eqb x 1) last ∙ digit_back (get_or ts (a + j) false)

pub length_packed : (ts : List Bool) → length (packed ts) ≡ (length ts + 7) / 8
length_packed ts = length-map-range_with_len (byte_at ts) 0 ((length ts + 7) / 8)

-- what is written is what is read
pub read_packed : (ts : List Bool) (rest : List ℕ) → take (length ts) (bits_of (packed ts ++ rest)) ≡ ts
read_packed ts rest =
    let n = length ts in
    let all = packed ts ++ rest in
    let long = length-append (packed ts) rest in
    let size = length_packed ts in
    let enough : n ≤ 8 * length all = omega arith in
    let same = length_first all n enough in
    ext_get_or false (take n (bits_of all)) ts same (λ i h.
    let lt : i < n = omega arith in
    let within : i / 8 < (n + 7) / 8 = omega arith in
    let inside : i / 8 < length (packed ts) = omega arith in
    let byte = get_or_append_left (packed ts) rest 0 (i / 8) inside ∙ get_or-map-range_with_len (byte_at ts) 0 ((n + 7) / 8) (i / 8) (i / 8) 0 within (omega arith) in
    let place : 8 * (i / 8) + i % 8 ≡ i = omega arith in
    bit_first all n i enough lt
    ∙ ap (λ x. eqb (x / 2 ^ (7 - i % 8) % 2) 1) byte
    ∙ number_bit ts (8 * (i / 8)) (i % 8) (omega arith)
    ∙ ap (λ k. get_or ts k false) place)

pub number_below : (ts : List Bool) (a n : ℕ) → number ts a n < 2 ^ n
number_below ts a zero = omega arith
number_below ts a (suc n) = omega (arith, number_below ts a n, digit_below (get_or ts (a + n) false), pow-succ' 2 n)

-- one bit more
number_zeros : (ts : List Bool) (a n m : ℕ) → length ts ≤ a + n → number ts a (m + n) ≡ number ts a n * 2 ^ m
number_zeros ts a n zero h = ap (number ts a) (zero-add n) ∙ sym (mul-one (number ts a n))
number_zeros ts a n (suc m) h =
    let past = ap digit (get_or_past ts (a + (m + n)) false (omega arith)) in
    let e = ap (number ts a) (suc-add m n) in
    let p = ap (λ x. number ts a n * x) (pow-succ' 2 m) in
    let q = mul_left_comm (number ts a n) 2 (2 ^ m) in
    omega (arith, number_zeros ts a n m h)

number_before : (ts : List Bool) (b : Bool) (a n : ℕ) → a + n ≤ length ts → number (ts ++ (b ∷ [])) a n ≡ number ts a n
number_before ts b a zero h = refl
number_before ts b a (suc n) h =
    let same = ap digit (get_or_append_left ts (b ∷ []) false (a + n) (omega arith)) in
    omega (arith, number_before ts b a n (omega arith))

module _ (ts : List Bool) (b : Bool) (k j : ℕ) (within : j < 8) (long : length ts ≡ 8 * k + j) where
  byte_was : byte_at ts k ≡ number ts (8 * k) j * 2 ^ (8 - j)
  byte_was = let e : 8 ≡ (8 - j) + j = omega arith in ap (number ts (8 * k)) e ∙ number_zeros ts (8 * k) j (8 - j) (omega arith)

  byte_is : byte_at (ts ++ (b ∷ [])) k ≡ number ts (8 * k) j * 2 ^ (8 - j) + digit b * 2 ^ (7 - j)
  byte_is =
      let us = ts ++ (b ∷ []) in
      let size = length_push ts b in
      let e : 8 ≡ (7 - j) + suc j = omega arith in
      let z = ap (number us (8 * k)) e ∙ number_zeros us (8 * k) (suc j) (7 - j) (omega arith) in
      let last = ap digit (ap (λ n. get_or us n false) (sym long) ∙ get_or_push ts b false (length ts) refl) in
      let before = number_before ts b (8 * k) j (omega arith) in
      let top : number us (8 * k) (suc j) ≡ 2 * number ts (8 * k) j + digit b = omega (arith, last, before) in
      let f : 8 - j ≡ suc (7 - j) = omega arith in
      let g = ap (λ n. number ts (8 * k) j * 2 ^ n) f ∙ ap (λ x. number ts (8 * k) j * x) (pow-succ' 2 (7 - j)) in
      let h = mul_left_comm (number ts (8 * k) j) 2 (2 ^ (7 - j)) in
      let d = add-mul (2 * number ts (8 * k) j) (digit b) (2 ^ (7 - j)) in
      let m = mul_assoc 2 (number ts (8 * k) j) (2 ^ (7 - j)) in
      let t = ap (λ x. x * 2 ^ (7 - j)) top in
      omega (arith, z)

  pub or_bit : b ≡ true → bit_or (byte_at ts k) (2 ^ (7 - j)) ≡ byte_at (ts ++ (b ∷ [])) k
  or_bit e =
      let less : 2 ^ (7 - j) < 2 ^ (8 - j) = pow_below (7 - j) (8 - j) (omega arith) in
      let d = ap (λ x. digit x * 2 ^ (7 - j)) e in
      let o = ap (λ x. bit_or x (2 ^ (7 - j))) byte_was ∙ or_shifted (number ts (8 * k) j) (8 - j) (2 ^ (7 - j)) less in
      omega (arith, byte_is)

  pub no_bit : b ≡ false → byte_at ts k ≡ byte_at (ts ++ (b ∷ [])) k
  no_bit e = let d = ap (λ x. digit x * 2 ^ (7 - j)) e in omega (arith, byte_is, byte_was)

-- a byte in which no bit has come yet
pub byte_none : (ts : List Bool) (k : ℕ) → length ts ≤ 8 * k → byte_at ts k ≡ 0
byte_none ts k h = number_zeros ts (8 * k) 0 8 (omega arith)

pub written_more : (ts : List Bool) (b : Bool) (old new : List ℕ) (i v : ℕ) → length ts ≡ i → i < 8 * length new → Written ts old new → v ≡ byte_at (ts ++ (b ∷ [])) (i / 8) → Written (ts ++ (b ∷ [])) old (set new (i / 8) v)
written_more ts b old new i v long lt was is =
    let size = length_push ts b in
    let here : i / 8 < length new = omega arith in
    record {
      long = length-set new (i / 8) v ∙ was.long;
      front = λ k h. ⊎_elim
          (λ (e : k ≡ i / 8). ap (λ n. get_or (set new (i / 8) v) n 0) e ∙ get_or-set_same new (i / 8) v 0 here ∙ is ∙ ap (byte_at (ts ++ (b ∷ []))) (sym e))
          (λ (e : k < i / 8). get_or-set_other new (i / 8) k v 0 (omega arith) ∙ was.front k (omega arith) ∙ sym (number_before ts b (8 * k) 8 (omega arith)))
          (split k (i / 8) (omega arith));
      rest = λ k h. get_or-set_other new (i / 8) k v 0 (omega arith) ∙ was.rest k (omega arith);
    }
  where
    split : (m n : ℕ) → m ≤ n → (m ≡ n) ⊎ (m < n)
    split m n h = grind arith

pub written_none : (old : List ℕ) → Written [] old old
written_none old = record { long = refl; front = λ k h. absurd (omega arith); rest = λ k h. refl }

pub written_list : (ts : List Bool) (old new : List ℕ) → bytes_for (length ts) ≤ length old → Written ts old new → new ≡ overwritten ts old
written_list ts old new fits w =
    let n = bytes_for (length ts) in
    let size : length (packed ts) ≡ n = length_packed ts in
    let all = length-append (packed ts) (drop n old) in
    let left = length-drop n old in
    ext_get_or 0 new (packed ts ++ drop n old) (omega (arith, w.long)) (λ k h. ⊎_elim
    (λ (lt : k < n). w.front k (omega arith)
    ∙ sym (get_or_append_left (packed ts) (drop n old) 0 k (omega arith) ∙ get_or-map-range_with_len (byte_at ts) 0 ((length ts + 7) / 8) k k 0 (omega arith) (omega arith)))
    (λ (ge : n ≤ k). let at : n + (k - n) ≡ k = omega arith in
    w.rest k (omega arith)
    ∙ sym (get_or-append_right (packed ts) (drop n old) n k 0 size ge ∙ get_or-drop n old (k - n) 0 ∙ ap (λ m. get_or old m 0) at))
    (below_or k n))
  where
    below_or : (m n : ℕ) → (m < n) ⊎ (n ≤ m)
    below_or m n = grind arith

-- a bit written behind the first ones
pub marked_in : (bytes : List ℕ) (i : ℕ) (b : Bool) (v : ℕ) → i / 8 < length bytes → v ≡ with_bit (begun (get_or bytes (i / 8) 0) (i % 8)) (i % 8) b → set bytes (i / 8) v ≡ marked bytes i b
marked_in bytes i b v h e = ap (set bytes (i / 8)) e ∙ grind (arith, nat_tests)

-- what the byte of the next bit holds before it
begun_is : (ts : List Bool) (old new : List ℕ) → Written ts old new → begun (get_or new (length ts / 8) 0) (length ts % 8) ≡ byte_at ts (length ts / 8)
begun_is ts old new w = by (length ts % 8) refl
  where
    by : (j : ℕ) → j ≡ length ts % 8 → begun (get_or new (length ts / 8) 0) j ≡ byte_at ts (length ts / 8)
    by zero e = sym (byte_none ts (length ts / 8) (omega arith))
    by (suc j) e = let f = w.front (length ts / 8) (omega arith) in grind (arith, nat_tests)

byte_with_bit : (ts : List Bool) (b : Bool) → with_bit (byte_at ts (length ts / 8)) (length ts % 8) b ≡ byte_at (ts ++ b ∷ []) (length ts / 8)
byte_with_bit ts b = by b refl
  where
    long : length ts ≡ 8 * (length ts / 8) + length ts % 8
    long = omega arith

    by : (d : Bool) → b ≡ d → with_bit (byte_at ts (length ts / 8)) (length ts % 8) d ≡ byte_at (ts ++ b ∷ []) (length ts / 8)
    by true e = or_bit ts b (length ts / 8) (length ts % 8) (omega arith) long e
    by false e = no_bit ts b (length ts / 8) (length ts % 8) (omega arith) long e

pub written_marked : (ts : List Bool) (b : Bool) (old new after : List ℕ) (i : ℕ) → length ts ≡ i → i < 8 * length old → Written ts old new → after ≡ marked new i b → Written (ts ++ b ∷ []) old after
written_marked ts b old new after i e h w m =
    let v = with_bit (begun (get_or new (length ts / 8) 0) (length ts % 8)) (length ts % 8) b in
    let is : v ≡ byte_at (ts ++ b ∷ []) (length ts / 8) = ap (λ x. with_bit x (length ts % 8) b) (begun_is ts old new w) ∙ byte_with_bit ts b in
    let here : length ts / 8 < length new = omega (arith, w.long) in
    subst (Written (ts ++ b ∷ []) old)
    (marked_in new (length ts) b v here refl ∙ (ap (λ n. marked new n b) e ∙ sym m))
    (written_more ts b old new (length ts) v refl (omega (arith, w.long)) w is)
