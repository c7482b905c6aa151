use Rattle.std.specs.Prelude.{◌≡◌, ℕ, zero, suc, ◌+◌, ◌-◌, ◌*◌, ◌/◌, ◌%◌, ◌^◌, ◌<◌, ◌≤◌, Bool, true, false, cond, List, ◌++◌, map, length, take, drop, ◌==◌, bit_or, nat_lt, slice_index, slice_index_or, slice_set}
use Rattle.std.specs.List.{range_with_len}

-- the bit at place i of the bytes, the highest bit of a byte first; past the end it is false
abbrev pub bit_at : List ℕ → ℕ → Bool
bit_at bytes i = slice_index bytes (i / 8) / 2 ^ (7 - i % 8) % 2 == 1

-- all bits of the bytes, in order
abbrev pub bits_of : List ℕ → List Bool
bits_of bytes = map (bit_at bytes) (range_with_len 0 (8 * length bytes))

abbrev pub digit : Bool → ℕ
digit true = 1
digit false = 0

-- n bits of ts from place a on as a number, the first the highest; past the end a bit is 0
abbrev pub number : List Bool → ℕ → ℕ → ℕ
number ts a zero = 0
number ts a (suc n) = 2 * number ts a n + digit (slice_index_or ts (a + n) false)

-- the k-th byte that holds ts
abbrev pub byte_at : List Bool → ℕ → ℕ
byte_at ts k = number ts (8 * k) 8

-- how many bytes hold n bits
abbrev pub bytes_for : ℕ → ℕ
bytes_for n = (n + 7) / 8

-- the bytes that hold ts: as many as it takes, the unused low bits of the last one 0
abbrev pub packed : List Bool → List ℕ
packed ts = map (byte_at ts) (range_with_len 0 (bytes_for (length ts)))

-- a buffer with the bytes of ts over its first ones; the bytes behind them stay
abbrev pub overwritten : List Bool → List ℕ → List ℕ
overwritten ts old = packed ts ++ drop (bytes_for (length ts)) old

-- bits that are packed, whatever follows them, are read again
abbrev pub Packs : Type 0
Packs = (ts : List Bool) (rest : List ℕ) → take (length ts) (bits_of (packed ts ++ rest)) ≡ ts

-- the same, byte by byte: new is old with the bytes of ts over its first ones
pub record Written (ts : List Bool) (old new : List ℕ) : Type 0 where
  pub long : length new ≡ length old
  pub front : (k : ℕ) → k < bytes_for (length ts) → slice_index new k ≡ byte_at ts k
  pub rest : (k : ℕ) → bytes_for (length ts) ≤ k → slice_index new k ≡ slice_index old k

-- what a byte holds before its bit of place j comes: nothing before the first
abbrev pub begun : ℕ → ℕ → ℕ
begun byte j = cond (j == 0) 0 byte

-- the byte with bit j added, if it is 1
abbrev pub with_bit : ℕ → ℕ → Bool → ℕ
with_bit byte j b = cond b (bit_or byte (2 ^ (7 - j))) byte

-- the bytes with the bit at place i written; past the end they stay
abbrev pub marked : List ℕ → ℕ → Bool → List ℕ
marked bytes i b = cond (nat_lt (i / 8) (length bytes)) (slice_set bytes (i / 8) (with_bit (begun (slice_index bytes (i / 8)) (i % 8)) (i % 8) b)) bytes
