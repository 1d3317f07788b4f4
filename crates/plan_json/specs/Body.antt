-- The bodies of replies: compact JSON (RFC 8259).
use Rattle.std.specs.Prelude.{ℕ, List}
use Rattle.std.specs.List.{All}
use Rattle.otp_model.specs.declared.timetable.Feed.{Feed}
use Rattle.serde_json.specs.Data.{Data}
use Rattle.serde_json.specs.Written.{compact_text}
use Rattle.plan_json.specs.Plan.{IsFoundOf, page_data}
use Rattle.plan_json.specs.Replies.{committed_data, kept_data, offset_data, parameter_data, refused_data, status_data, updated_data}
use Rattle.plan_json.specs.declared.body.Body.{Body}
use Rattle.plan_json.specs.declared.body.Body.TheVariants.{Plan, Status, Updated, Committed, Refused, Parameter, Offset, Kept}

abbrev pub body_data : Feed → Body → Data
body_data feed (Plan number cursor at_least page) = page_data feed number cursor at_least page
body_data feed (Status number) = status_data feed number
body_data feed (Updated accepted commit ignored) = updated_data accepted commit ignored
body_data feed (Committed number fresh) = committed_data number fresh
body_data feed (Refused name) = refused_data name
body_data feed (Parameter name parameter) = parameter_data name parameter
body_data feed (Offset name at) = offset_data name at
body_data feed (Kept name have) = kept_data name have

-- the bytes of a reply's body
abbrev pub body_text : Feed → Body → List ℕ
body_text feed body = compact_text (body_data feed body)

-- the journeys of a plan are of the feed, and fit the text of a cursor
abbrev pub IsBodyOf : Feed → Body → Type 0
IsBodyOf feed (Plan number cursor at_least page) = All (IsFoundOf feed number) page.found
IsBodyOf feed (Status number) = Unit {0}
IsBodyOf feed (Updated accepted commit ignored) = Unit {0}
IsBodyOf feed (Committed number fresh) = Unit {0}
IsBodyOf feed (Refused name) = Unit {0}
IsBodyOf feed (Parameter name parameter) = Unit {0}
IsBodyOf feed (Offset name at) = Unit {0}
IsBodyOf feed (Kept name have) = Unit {0}
