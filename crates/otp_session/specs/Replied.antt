-- The bytes of replies.
use Rattle.std.specs.Prelude.{◌≡◌, ◌==◌, ◌||◌, ℕ, List, Bool, true, codes}
use Rattle.http_read.specs.declared.request.HeadFault.{HeadFault}
use Rattle.link_stream.specs.declared.service.Replied.{Replied}
use Rattle.link_stream.specs.declared.service.Replied.TheVariants as replied
use Rattle.otp_model.specs.declared.timetable.Feed.{Feed}
use Rattle.plan_json.specs.Body.{body_text}
use Rattle.plan_json.specs.Replies.{refused_data}
use Rattle.plan_json.specs.Reply.{reply_text}
use Rattle.reply_bodies.specs.Names.{head_name}
use Rattle.reply_bodies.specs.Refusals.{head_status}
use Rattle.reply_bodies.specs.declared.reply.Reply.{Reply}
use Rattle.reply_bodies.specs.declared.reply.Reply.TheVariants.{Answer, Memory}
use Rattle.serde_json.specs.Written.{compact_text}

-- The bytes of a reply, or want of memory for them. The connection closes behind a reply where the request or a status of 503 says
-- so, and the reply says that it closes where it is the last of a call too.
abbrev pub IsReplied : Feed → Reply → Bool → Bool → Replied → Type 0
IsReplied feed (Answer status body) close last (replied.Bytes bytes closes) =
    (closes ≡ (close || (status == 503))) × (bytes ≡ reply_text status (closes || last) (body_text feed body))
IsReplied feed Memory close last (replied.Bytes bytes closes) = ⊥
IsReplied feed reply close last replied.Memory = Unit {0}

-- the bytes of the reply to a head that is refused, which are the same over each feed
abbrev pub refusal_text : HeadFault → List ℕ
refusal_text fault = reply_text (head_status fault) true (compact_text (refused_data (head_name fault)))

-- the bytes of the reply where memory ran out
abbrev pub memory_text : List ℕ
memory_text = reply_text 503 true (compact_text (refused_data (codes "memory")))
