use Rattle.std.specs.Prelude.{◌≡◌, ℕ, ◌-◌, min, Bool, cond, List, length, take, Some, None, Ok, Err, Option, Result, nat_le}
use Rattle.bits.specs.Bits.{bytes_for, overwritten}
use Rattle.head.specs.declared.Head.{Head}
use Rattle.speck.specs.Grid.{Grid}
use Rattle.speck.specs.Survey.{survey}
use Rattle.sender.specs.declared.SendFault.{SendFault}
use Rattle.sender.specs.declared.SendFault.TheVariants as fault

-- the survey of a grid with a head
abbrev pub survey_of : Head → Grid → List Bool
survey_of h g = survey (h.shape.exponent - h.shape.levels) h.shape.levels h.planes g

-- What is wrong with a slot and a buffer: first the slot, then the buffer.
abbrev pub slot_fault : ℕ → List ℕ → Option SendFault
slot_fault slot buffer = cond (nat_le slot 86101) (cond (nat_le (bytes_for slot) (length buffer)) None (Some fault.Buffer)) (Some fault.Slot)

-- What sending the bits of a survey answers, and what it leaves of a buffer `old`: as many bits as slot and survey both have, packed over its first bytes. A refusal, and want of memory, leave it as it was.
abbrev pub Sends : List Bool → ℕ → List ℕ → List ℕ → Result ℕ SendFault → Type 0
Sends bits slot old new (Ok n) = (slot_fault slot old ≡ None) × (n ≡ min slot (length bits)) × (new ≡ overwritten (take slot bits) old)
Sends bits slot old new (Err fault.Slot) = (slot_fault slot old ≡ Some fault.Slot) × (new ≡ old)
Sends bits slot old new (Err fault.Buffer) = (slot_fault slot old ≡ Some fault.Buffer) × (new ≡ old)
Sends bits slot old new (Err fault.Memory) = (slot_fault slot old ≡ None) × (new ≡ old)
