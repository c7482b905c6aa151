use Rattle.std.specs.Prelude.{◌≡◌, ℕ, ◌+◌, ◌*◌, ◌^◌, Bool, cond, ◌&&◌, List, length, Some, None, Option, ◌==◌, nat_le, nat_lt, slice_index}
use Rattle.head.specs.Faults.{or_else}
use Rattle.head.specs.declared.Head.{Head}
use Rattle.head.specs.declared.HeadFault.{HeadFault}
use Rattle.head.specs.declared.HeadFault.TheVariants as fault
use Rattle.head.specs.declared.refusals.Refusal.{Refusal}
use Rattle.head.specs.declared.refusals.Refusal.TheVariants as refusal

-- which refusal a fault of a head is
abbrev pub refusal_of : HeadFault → Refusal
refusal_of fault.Side = refusal.Side
refusal_of fault.Levels = refusal.Levels
refusal_of fault.Planes = refusal.Planes
refusal_of fault.Edition = refusal.Edition
refusal_of fault.Buffer = refusal.Buffer

-- What is wrong with a side exponent m and k levels: first the side, then the levels.
abbrev pub shape_fault : ℕ → ℕ → Option HeadFault
shape_fault m k = cond (nat_le 1 m && nat_le m 6) (cond (nat_le k m) None (Some fault.Levels)) (Some fault.Side)

-- What is wrong with p planes, and with a head of all three.
abbrev pub planes_fault : ℕ → Option HeadFault
planes_fault p = cond (nat_le p 15) None (Some fault.Planes)

abbrev pub head_fault : ℕ → ℕ → ℕ → Option HeadFault
head_fault m k p = or_else (shape_fault m k) (planes_fault p)

-- What is wrong with the bytes of a head: too few come before all else, the edition after all else.
abbrev pub bytes_fault : List ℕ → Option HeadFault
bytes_fault bytes =
    cond (nat_lt (length bytes) 4) (Some fault.Buffer) (or_else (head_fault (slice_index bytes 1) (slice_index bytes 2) (slice_index bytes 3)) (cond (slice_index bytes 0 == 1) None (Some fault.Edition)))

-- the head that the bytes write
abbrev pub HeadAt : List ℕ → Head → Type 0
HeadAt bytes h = (h.shape.exponent ≡ slice_index bytes 1) × (h.shape.levels ≡ slice_index bytes 2) × (h.planes ≡ slice_index bytes 3)

-- whether a map of side 2^m has the cell
abbrev pub inside : ℕ → ℕ → ℕ → Bool
inside m row column = nat_lt row (2 ^ m) && nat_lt column (2 ^ m)

-- the cell's place in row order
abbrev pub place_of : ℕ → ℕ → ℕ → Option ℕ
place_of m row column = cond (inside m row column) (Some (row * 2 ^ m + column)) None
