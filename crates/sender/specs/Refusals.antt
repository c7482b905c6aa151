use Rattle.std.specs.Prelude.{Some, None, Option}
use Rattle.head.specs.declared.refusals.Refusal.{Refusal}
use Rattle.head.specs.declared.refusals.Refusal.TheVariants as refusal
use Rattle.sender.specs.declared.SendFault.{SendFault}
use Rattle.sender.specs.declared.SendFault.TheVariants as fault

-- which refusal a fault of sending is; want of memory is none
abbrev pub refusal_of : SendFault → Option Refusal
refusal_of fault.Slot = Some refusal.Slot
refusal_of fault.Buffer = Some refusal.Buffer
refusal_of fault.Memory = None
