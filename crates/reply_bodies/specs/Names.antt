-- The names of faults. They are this project's own; a message is a FeedMessage of the GTFS Realtime reference in the wire
-- form of protocol buffers.
use Rattle.std.specs.Prelude.{ℕ, List, Option, Some, None, codes}
use Rattle.http_read.specs.declared.request.HeadFault.{HeadFault}
use Rattle.http_read.specs.declared.request.HeadFault.TheVariants as head
use Rattle.pb_wire.specs.declared.field.WireFault.TheVariants as wire
use Rattle.query_form.specs.declared.fault.QueryFault.{QueryFault}
use Rattle.query_form.specs.declared.fault.QueryFault.TheVariants as query
use Rattle.rt_reader.specs.declared.fault.MessageFault.{MessageFault}
use Rattle.rt_reader.specs.declared.fault.MessageFault.TheVariants as message

abbrev pub cause_name : QueryFault → List ℕ
cause_name query.Missing = codes "missing"
cause_name query.Bad = codes "bad"
cause_name query.Twice = codes "twice"
cause_name query.UnknownPlace = codes "unknown"

abbrev pub fault_name : MessageFault → List ℕ
fault_name (message.Wire (wire.Cut at)) = codes "cut"
fault_name (message.Wire (wire.LongVarint at)) = codes "varint"
fault_name (message.Wire (wire.Group at)) = codes "group"
fault_name (message.Wire (wire.ZeroField at)) = codes "zero"
fault_name (message.Wire wire.Memory) = codes "memory"
fault_name message.NoHeader = codes "header"
fault_name message.Differential = codes "differential"
fault_name (message.NotText at) = codes "text"
fault_name (message.Repeated at) = codes "repeated"
fault_name (message.WrongType at) = codes "type"
fault_name message.Memory = codes "memory"

-- where in the body a fault stands, if it has a place
abbrev pub fault_offset : MessageFault → Option ℕ
fault_offset (message.Wire (wire.Cut at)) = Some at
fault_offset (message.Wire (wire.LongVarint at)) = Some at
fault_offset (message.Wire (wire.Group at)) = Some at
fault_offset (message.Wire (wire.ZeroField at)) = Some at
fault_offset (message.Wire wire.Memory) = None
fault_offset message.NoHeader = None
fault_offset message.Differential = None
fault_offset (message.NotText at) = Some at
fault_offset (message.Repeated at) = Some at
fault_offset (message.WrongType at) = Some at
fault_offset message.Memory = None

abbrev pub head_name : HeadFault → List ℕ
head_name head.Head = codes "head"
head_name head.Headers = codes "headers"
head_name head.Coding = codes "coding"
head_name head.Length = codes "length"
head_name head.Large = codes "large"
head_name head.NoLength = codes "nolength"
