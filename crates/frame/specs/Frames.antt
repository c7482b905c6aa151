use Rattle.std.specs.Prelude.{ℕ, ◌+◌, ◌*◌, ◌^◌, cond, List, ℤ, is_some, Some, None, Option, slice_index_or, slice_set}
use Rattle.transform.specs.Transform.{Grid}
use Rattle.frame.specs.Cells.{in_span, settled}
use Rattle.head.specs.Heads.{inside}
use Rattle.frame.specs.declared.Closed.{Closed}
use Rattle.frame.specs.declared.Frame.{Frame}
use Rattle.frame.specs.declared.FrameFault.{FrameFault}
use Rattle.frame.specs.declared.FrameFault.TheVariants as fault
use Rattle.head.specs.declared.refusals.Refusal.{Refusal}
use Rattle.head.specs.declared.refusals.Refusal.TheVariants as refusal

-- a frame for good
abbrev pub ClosedFrame : Type 0
ClosedFrame = Frame Closed

-- which refusal a fault of a frame is
abbrev pub refusal_of : FrameFault → Refusal
refusal_of fault.Height = refusal.Height
refusal_of fault.Cell = refusal.Cell
refusal_of fault.ToldTwice = refusal.ToldTwice

-- the cell at a row and a column of 2^m rows of 2^m cells each, row after row
abbrev pub cell_at : ℕ → List (Option ℤ) → ℕ → ℕ → Option ℤ
cell_at m cells row column = slice_index_or cells (row * 2 ^ m + column) None

-- the height that each cell has in a closed frame
abbrev pub heights_of : ℕ → List (Option ℤ) → Grid
heights_of m cells row column = settled (cell_at m cells row column)

-- What is wrong with telling this height of this cell: first the height, then the cell, then that it was told before.
abbrev pub entry_fault : ℕ → List (Option ℤ) → ℕ → ℕ → ℤ → Option FrameFault
entry_fault m cells row column h =
    cond (in_span h) (cond (inside m row column) (cond (is_some (cell_at m cells row column)) (Some fault.ToldTwice) None) (Some fault.Cell)) (Some fault.Height)

-- What a call leaves: where a fault applies all stays.
abbrev pub unless : {X : Type 0} → Option FrameFault → X → X → X
unless None stays changed = changed
unless (Some e) stays changed = stays

-- the cells after the entry
abbrev pub entered : ℕ → List (Option ℤ) → ℕ → ℕ → ℤ → List (Option ℤ)
entered m cells row column h = unless (entry_fault m cells row column h) cells (slice_set cells (row * 2 ^ m + column) (Some h))
