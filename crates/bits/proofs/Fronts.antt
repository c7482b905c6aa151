-- The first n bits of a buffer.
use Rattle.std.proofs.Common.{◌≡◌, ℕ, ◌*◌, ◌<◌, ◌≤◌, false, List, length, get_or, take, ◌∙◌, arith}
use Rattle.std.proofs.lemmas.List.{get_or-take, length-take}
use Rattle.std.proofs.lemmas.List.FromFn.{get_or-map-range_with_len, length-map-range_with_len}
use Rattle.bits.specs.Bits.{bit_at, bits_of}

pub length_first : (bytes : List ℕ) (n : ℕ) → n ≤ 8 * length bytes → length (take n (bits_of bytes)) ≡ n
length_first bytes n h = omega (arith, length-take n (bits_of bytes), length-map-range_with_len (bit_at bytes) 0 (8 * length bytes))

pub bit_first : (bytes : List ℕ) (n i : ℕ) → n ≤ 8 * length bytes → i < n → get_or (take n (bits_of bytes)) i false ≡ bit_at bytes i
bit_first bytes n i h l =
    get_or-take n (bits_of bytes) i false l ∙ get_or-map-range_with_len (bit_at bytes) 0 (8 * length bytes) i i false (omega arith) (omega arith)
