use Rattle.std.specs.Prelude.{ℕ, ◌+◌, ◌/◌, ◌%◌, ◌^◌, cond, ◌&&◌, List, length, ℤ, pos, nat_le, nat_lt, slice_index_or}
use Rattle.head.specs.Heads.{inside}
use Rattle.head.specs.declared.refusals.Refusal.{Refusal}
use Rattle.head.specs.declared.refusals.Refusal.TheVariants as refusal
use Rattle.transform.specs.Transform.{Grid, one_of}
use Rattle.heights.specs.declared.undoing.ReadFault.{ReadFault}
use Rattle.heights.specs.declared.undoing.ReadFault.TheVariants as fault

-- which refusal a fault of reading is
abbrev pub refusal_of : ReadFault → Refusal
refusal_of fault.Cell = refusal.Cell
refusal_of fault.Buffer = refusal.Buffer

-- the number of a grid of side 2^m at a cell; 0 outside
abbrev pub reading_at : ℕ → Grid → ℕ → ℕ → ℤ
reading_at m g row column = cond (inside m row column) (g row column) (pos 0)

-- A cell of a block of four, from the block's low and its differences.
abbrev pub block_of : ℕ → Grid → ℤ → ℕ → ℕ → ℤ
block_of h g low row column = one_of column (one_of row low (g (h + row / 2) (column / 2))) (one_of row (g (row / 2) (h + column / 2)) (g (h + row / 2) (h + column / 2)))

-- What stands at a place of a buffer after a map of side 2^m was drawn into it: a shorter buffer, and the places behind the map, are as before.
abbrev pub drawn : ℕ → Grid → List ℤ → ℕ → ℤ
drawn m g before p = cond (nat_le (4 ^ m) (length before) && nat_lt p (4 ^ m)) (g (p / 2 ^ m) (p % 2 ^ m)) (slice_index_or before p (pos 0))
