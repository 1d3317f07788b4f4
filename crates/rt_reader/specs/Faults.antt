-- Answers that are exact but for want of memory.
use Rattle.std.specs.Prelude.{◌≡◌, Option, Some, None, Result, Ok, Err}
use Rattle.otp_base.specs.Answers.{OrMemory}
use Rattle.pb_wire.specs.declared.field.WireFault.{WireFault}
use Rattle.pb_wire.specs.declared.field.WireFault.TheVariants as wire
use Rattle.rt_reader.specs.declared.fault.MessageFault.{MessageFault}
use Rattle.rt_reader.specs.declared.fault.MessageFault.TheVariants as fault

-- a fault of the wire as one of the message
abbrev pub fault_of : WireFault → MessageFault
fault_of (wire.Cut a) = fault.Wire (wire.Cut a)
fault_of (wire.LongVarint a) = fault.Wire (wire.LongVarint a)
fault_of (wire.Group a) = fault.Wire (wire.Group a)
fault_of (wire.ZeroField a) = fault.Wire (wire.ZeroField a)
fault_of wire.Memory = fault.Memory

-- each fault tells itself, but want of memory
abbrev pub told_of : MessageFault → Option MessageFault
told_of (fault.Wire w) = Some (fault.Wire w)
told_of fault.NoHeader = Some fault.NoHeader
told_of fault.Differential = Some fault.Differential
told_of (fault.NotText a) = Some (fault.NotText a)
told_of (fault.Repeated a) = Some (fault.Repeated a)
told_of (fault.WrongType a) = Some (fault.WrongType a)
told_of fault.Memory = None

-- A value comes exactly where nothing is wrong, and then P holds of it; a fault is the one that is wrong.
abbrev pub Reads : {X : Type 0} → Result X MessageFault → Option MessageFault → (X → Type 0) → Type 0
Reads (Ok x) wrong P = (wrong ≡ None) × P x
Reads (Err e) wrong P = OrMemory told_of (λ f. wrong ≡ Some f) e

-- the first of two faults
abbrev pub first : Option MessageFault → Option MessageFault → Option MessageFault
first None then = then
first (Some e) then = Some e
