-- The status and the body of each refusal (RFC 9110, section 15; RFC 6585, section 5). Which refusal has which status and
-- name is this project's own.
use Rattle.std.specs.Prelude.{◌≡◌, ℕ, ◌^◌, List, codes}
use Rattle.http_read.specs.declared.request.HeadFault.{HeadFault}
use Rattle.http_read.specs.declared.request.HeadFault.TheVariants as head
use Rattle.plan_json.specs.declared.body.Body.{Body}
use Rattle.plan_json.specs.declared.body.Body.TheVariants as body
use Rattle.query_form.specs.declared.fault.QueryFault.{QueryFault}
use Rattle.query_form.specs.declared.fault.QueryFault.TheVariants as query
use Rattle.query_form.specs.declared.fault.TargetFault.{TargetFault}
use Rattle.query_form.specs.declared.fault.TargetFault.TheVariants as target
use Rattle.pb_wire.specs.declared.field.WireFault.TheVariants as wire
use Rattle.rt_reader.specs.declared.fault.MessageFault.{MessageFault}
use Rattle.rt_reader.specs.declared.fault.MessageFault.TheVariants as message
use Rattle.reply_bodies.specs.declared.reply.Reply.{Reply}
use Rattle.reply_bodies.specs.declared.reply.Reply.TheVariants as reply
use Rattle.reply_bodies.specs.Names.{cause_name, fault_name, fault_offset, head_name}

-- this reply, unless memory ran out
abbrev pub IsOrMemory : Reply → Reply → Type 0
IsOrMemory expected (reply.Answer status body) = reply.Answer status body ≡ expected
IsOrMemory expected reply.Memory = Unit {0}

abbrev pub refused : ℕ → List ℕ → Reply
refused status name = reply.Answer status (body.Refused name)

abbrev pub head_status : HeadFault → ℕ
head_status head.Head = 400
head_status head.Headers = 431
head_status head.Coding = 501
head_status head.Length = 400
head_status head.Large = 413
head_status head.NoLength = 411

abbrev pub head_refusal : HeadFault → Reply
head_refusal fault = refused (head_status fault) (head_name fault)

abbrev pub target_status : QueryFault → ℕ
target_status query.Missing = 400
target_status query.Bad = 400
target_status query.Twice = 400
target_status query.UnknownPlace = 404

abbrev pub target_refusal : TargetFault → Reply
target_refusal target.Path = refused 404 (codes "path")
target_refusal target.FeedNumber = refused 404 (codes "feed")
target_refusal target.Method = refused 405 (codes "method")
target_refusal (target.Query cause parameter) = reply.Answer (target_status cause) (body.Parameter (cause_name cause) parameter)
target_refusal target.Memory = reply.Memory

abbrev pub unread : MessageFault → Reply
unread fault = reply.Answer 422 (body.Offset (fault_name fault) (fault_offset fault))

abbrev pub message_refusal : MessageFault → Reply
message_refusal (message.Wire (wire.Cut at)) = unread (message.Wire (wire.Cut at))
message_refusal (message.Wire (wire.LongVarint at)) = unread (message.Wire (wire.LongVarint at))
message_refusal (message.Wire (wire.Group at)) = unread (message.Wire (wire.Group at))
message_refusal (message.Wire (wire.ZeroField at)) = unread (message.Wire (wire.ZeroField at))
message_refusal (message.Wire wire.Memory) = reply.Memory
message_refusal message.NoHeader = unread message.NoHeader
message_refusal message.Differential = unread message.Differential
message_refusal (message.NotText at) = unread (message.NotText at)
message_refusal (message.Repeated at) = unread (message.Repeated at)
message_refusal (message.WrongType at) = unread (message.WrongType at)
message_refusal message.Memory = reply.Memory

abbrev pub older_refusal : ℕ → Reply
older_refusal have = reply.Answer 422 (body.Kept (codes "older") have)

abbrev pub spent_refusal : Reply
spent_refusal = reply.Answer 422 (body.Kept (codes "spent") (2 ^ 40))

abbrev pub turned_refusal : Reply
turned_refusal = refused 503 (codes "turned")
