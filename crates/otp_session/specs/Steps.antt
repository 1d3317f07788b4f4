-- What a plan and a status may be answered, and what they do to the session.
use Rattle.std.specs.Prelude.{◌≡◌, ◌⊎◌, ℕ, List, length, Option, None, Some, true, if◌then◌else◌}
use Rattle.std.specs.Option.{option_map}
use Rattle.otp_model.specs.Core.{History, Plan as PlanQuery, pinned_in}
use Rattle.otp_model.specs.Schedule.{sched}
use Rattle.otp_model.specs.declared.journey.Request.{Request}
use Rattle.otp_model.specs.declared.timetable.Edges.{Edges}
use Rattle.otp_model.specs.declared.timetable.Feed.{Feed}
use Rattle.plan_json.specs.Body.{IsBodyOf}
use Rattle.plan_json.specs.Reply.{is_status}
use Rattle.plan_json.specs.declared.body.Body.TheVariants.{Status}
use Rattle.query_form.specs.declared.asked.Asked.{Asked}
use Rattle.query_form.specs.declared.asked.Asked.TheVariants as asked
use Rattle.reply_bodies.specs.Plans.{IsPlanOf}
use Rattle.reply_bodies.specs.Refusals.{turned_refusal}
use Rattle.reply_bodies.specs.declared.reply.Reply.{Reply}
use Rattle.reply_bodies.specs.declared.reply.Reply.TheVariants.{Answer, Memory}
use Rattle.otp_session.specs.Sessions.{HasGivenUp, KeepsAt, SessionView, TakesAt, handed_back}

-- the number of commits that a request pins its page to: that of its cursor, where it asks so
abbrev pub pin_of : Request → Option ℕ
pin_of r = if r.pin then option_map (λ cursor. cursor.commit) r.cursor else None

-- the kept history that a request is pinned to, if there is one
abbrev pub pinned_by : Request → List History → Option History
pinned_by r kept = pinned_in (PlanQuery (pin_of r)) kept

-- a plan over the schedule after a history, unless memory ran out
abbrev pub IsPlanOver : Feed → Edges → Request → History → Reply → Type 0
IsPlanOver feed edges r history (Answer status body) = (status ≡ 200) × IsPlanOf (sched feed history) edges r (length history) body
IsPlanOver feed edges r history Memory = Unit {0}

-- the number of commits, beside what the feed holds, unless memory ran out
abbrev pub IsStatusOver : History → Reply → Type 0
IsStatusOver history (Answer status body) = (status ≡ 200) × (body ≡ Status (length history))
IsStatusOver history Memory = Unit {0}

-- the refusal that a reader was handed back, which it was
abbrev pub IsTurned : SessionView → Reply → SessionView → Type 0
IsTurned old reply now = (reply ≡ turned_refusal) × (now ≡ handed_back old)

-- A pinned page is answered over the kept view, and the session stays as it is. Each other plan is answered over a view that the
-- session takes, and then keeps.
abbrev pub PlansOver : Feed → Edges → Request → Option History → SessionView → Reply → SessionView → Type 0
PlansOver feed edges r (Some history) old reply now = IsPlanOver feed edges r history reply × (now ≡ old)
PlansOver feed edges r None old (Answer status body) now =
    ((history : History) × KeepsAt old now history × IsPlanOver feed edges r history (Answer status body)) ⊎ IsTurned old (Answer status body) now
PlansOver feed edges r None old Memory now = HasGivenUp old now

abbrev pub PlanStep : Feed → Edges → Request → SessionView → Reply → SessionView → Type 0
PlanStep feed edges r old reply now = PlansOver feed edges r (pinned_by r old.kept) old reply now

-- a status is answered over a view that the session takes
abbrev pub StatusStep : SessionView → Reply → SessionView → Type 0
StatusStep old (Answer status body) now =
    ((history : History) × TakesAt old now history × IsStatusOver history (Answer status body)) ⊎ IsTurned old (Answer status body) now
StatusStep old Memory now = HasGivenUp old now

-- what is answered without a desk
abbrev pub LookStep : Feed → Edges → Asked → SessionView → Reply → SessionView → Type 0
LookStep feed edges (asked.Plan r) old reply now = PlanStep feed edges r old reply now
LookStep feed edges asked.Status old reply now = StatusStep old reply now
LookStep feed edges (asked.Update number commit) old reply now = ⊥
LookStep feed edges asked.Commit old reply now = ⊥

-- whether a plan or a status is asked for
abbrev pub IsLook : Asked → Type 0
IsLook (asked.Plan r) = Unit {0}
IsLook asked.Status = Unit {0}
IsLook (asked.Update number commit) = ⊥
IsLook asked.Commit = ⊥

-- the reply has bytes: its status is one of those that are sent, and its journeys are of the feed
abbrev pub IsSendable : Feed → Reply → Type 0
IsSendable feed (Answer status body) = (is_status status ≡ true) × IsBodyOf feed body
IsSendable feed Memory = Unit {0}
