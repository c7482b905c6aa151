-- Parts within the grid, and how many cells they have.
use Rattle.std.specs.Prelude.{ℕ, zero, suc, ◌+◌, ◌*◌, ◌^◌, ◌<◌, ◌≤◌}
use Rattle.speck.specs.declared.Part.{Part}
use Rattle.speck.specs.declared.Part.TheVariants.{Block, Rest}
use Rattle.head.specs.declared.refusals.Refusal.{Refusal}
use Rattle.head.specs.declared.refusals.Refusal.TheVariants as refusal
use Rattle.walk.specs.declared.asking.BitFault.{BitFault}
use Rattle.walk.specs.declared.asking.BitFault.TheVariants as fault

-- the part lies within 64 rows and 64 columns
abbrev pub Within : Part → Type 0
Within (Block s r c) = (s ≤ 6) × (r + 2 ^ s ≤ 64) × (c + 2 ^ s ≤ 64)
Within (Rest d x) = x + d < 6

-- how many cells it has
abbrev pub ring : ℕ → ℕ → ℕ
ring zero x = 3 * 4 ^ x
ring (suc d) x = 3 * 4 ^ x + ring d (suc x)

abbrev pub area : Part → ℕ
area (Block s r c) = 4 ^ s
area (Rest d x) = ring d x

-- which refusal a fault of a bit is
abbrev pub refusal_of : BitFault → Refusal
refusal_of fault.Surplus = refusal.Surplus
refusal_of fault.Contradiction = refusal.Contradiction
