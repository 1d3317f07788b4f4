-- What an update and a commit may be answered, and what they do to the desk and to the session.
use Rattle.std.specs.Prelude.{◌≡◌, ◌⊎◌, ◌^◌, ◌<◌, ◌≤◌, ℕ, List, length, Option, None, Some, Bool, true, false}
use Rattle.commit_desk.specs.Desks.{has_pending}
use Rattle.otp_model.specs.Core.{History}
use Rattle.otp_model.specs.Desk.{Acceptance, Accepted, DeskState, Older, Spent, acceptance_by, accepts, commits, pending_in}
use Rattle.otp_model.specs.Resolution.{ignored}
use Rattle.otp_model.specs.declared.message.Message.{Message}
use Rattle.otp_model.specs.declared.timetable.Feed.{Feed}
use Rattle.plan_json.specs.declared.body.Body.{Body}
use Rattle.plan_json.specs.declared.body.Body.TheVariants.{Committed, Updated}
use Rattle.query_form.specs.declared.asked.Asked.{Asked}
use Rattle.query_form.specs.declared.asked.Asked.TheVariants as asked
use Rattle.reply_bodies.specs.Refusals.{IsOrMemory, message_refusal, older_refusal, spent_refusal, turned_refusal}
use Rattle.reply_bodies.specs.declared.reply.Reply.{Reply}
use Rattle.reply_bodies.specs.declared.reply.Reply.TheVariants.{Answer, Memory}
use Rattle.rt_reader.specs.Spelling.{SpellsMessage}
use Rattle.rt_reader.specs.Tables.{first_fault}
use Rattle.rt_reader.specs.declared.fault.MessageFault.{MessageFault}
use Rattle.otp_session.specs.Sessions.{LooksAt, SessionView, handed_back, told}

-- the desk and the session are as before
abbrev pub IsAsBefore : DeskState → SessionView → DeskState → SessionView → Type 0
IsAsBefore before old after now = (after ≡ before) × (now ≡ old)

-- What a session answers that was told of the published history and looks: a body over the history of the view that it takes, or that
-- its reader was handed back.
abbrev pub Looks : (ℕ → Body) → History → SessionView → Reply → SessionView → Type 0
Looks body_of published old (Answer status body) now =
    ((history : History) × LooksAt old now published history × (Answer status body ≡ Answer 200 (body_of (length history))))
    ⊎ ((Answer status body ≡ turned_refusal) × (now ≡ handed_back (told old published)))
Looks body_of published old Memory now =
    ((history : History) × LooksAt old now published history) ⊎ (now ≡ handed_back (told old published))

-- as many commits were made as may be counted, so there is none
abbrev pub IsSpent : DeskState → SessionView → Reply → DeskState → SessionView → Type 0
IsSpent before old reply after now = (2 ^ 40 ≤ length before.history) × IsOrMemory spent_refusal reply × IsAsBefore before old after now

-- memory ran out before anything changed
abbrev pub IsStopped : DeskState → SessionView → Reply → DeskState → SessionView → Type 0
IsStopped before old reply after now = (reply ≡ Memory) × IsAsBefore before old after now

-- what is pending was published, and the session looks
abbrev pub HasCommitted : (ℕ → Body) → DeskState → SessionView → Reply → DeskState → SessionView → Type 0
HasCommitted body_of before old reply after now = (after ≡ commits before) × Looks body_of after.history old reply now

-- a commit
abbrev pub CommitStep : DeskState → SessionView → Reply → DeskState → SessionView → Type 0
CommitStep before old reply after now =
    IsSpent before old reply after now
    ⊎ ((length before.history < 2 ^ 40)
    × (IsStopped before old reply after now ⊎ HasCommitted (λ number. Committed number (has_pending (pending_in before.slots))) before old reply after now))

-- the body of the reply to a message that was accepted, and committed where a number of commits stands
abbrev pub updated_body : Feed → Message → ℕ → Option ℕ → Body
updated_body feed message count number = Updated count number (ignored feed message)

-- a message is offered, and not committed
abbrev pub offer_reply : Feed → Message → Acceptance → Reply
offer_reply feed message (Accepted count) = Answer 200 (updated_body feed message count None)
offer_reply feed message (Older have) = older_refusal have
offer_reply feed message Spent = spent_refusal

pub record IsOffered (feed : Feed) (number : ℕ) (message : Message) (before : DeskState) (reply : Reply) (after : DeskState) : Type 0 where
  pub acceptance : Acceptance
  pub acceptance_is : acceptance_by number message before ≡ Some acceptance
  pub reply_is : IsOrMemory (offer_reply feed message acceptance) reply
  pub after_is : after ≡ accepts number message before

abbrev pub OfferStep : Feed → ℕ → Message → DeskState → SessionView → Reply → DeskState → SessionView → Type 0
OfferStep feed number message before old reply after now =
    IsStopped before old reply after now ⊎ (IsOffered feed number message before reply after × (now ≡ old))

-- a message that was answered so, and is to be committed with all that is pending
abbrev pub GoesOn : Feed → ℕ → Message → Acceptance → DeskState → SessionView → Reply → DeskState → SessionView → Type 0
GoesOn feed number message (Accepted count) before old reply after now =
    IsStopped (accepts number message before) old reply after now
    ⊎ HasCommitted (λ made. updated_body feed message count (Some made)) (accepts number message before) old reply after now
GoesOn feed number message (Older have) before old reply after now = IsOrMemory (older_refusal have) reply × IsAsBefore (accepts number message before) old after now
GoesOn feed number message Spent before old reply after now = IsOrMemory spent_refusal reply × IsAsBefore (accepts number message before) old after now

pub record IsCommitting (feed : Feed) (number : ℕ) (message : Message) (before : DeskState) (old : SessionView) (reply : Reply) (after : DeskState) (now : SessionView) : Type 0 where
  pub acceptance : Acceptance
  pub acceptance_is : acceptance_by number message before ≡ Some acceptance
  pub goes_on : GoesOn feed number message acceptance before old reply after now

-- a message is offered and committed, both before any other session changes the desk
abbrev pub CommittingStep : Feed → ℕ → Message → DeskState → SessionView → Reply → DeskState → SessionView → Type 0
CommittingStep feed number message before old reply after now =
    IsSpent before old reply after now
    ⊎ ((length before.history < 2 ^ 40) × (IsStopped before old reply after now ⊎ IsCommitting feed number message before old reply after now))

abbrev pub MessageStep : Bool → Feed → ℕ → Message → DeskState → SessionView → Reply → DeskState → SessionView → Type 0
MessageStep false feed number message before old reply after now = OfferStep feed number message before old reply after now
MessageStep true feed number message before old reply after now = CommittingStep feed number message before old reply after now

-- a body that spells no message is refused with its first fault
pub record IsUnspelt (body : List ℕ) (before : DeskState) (old : SessionView) (reply : Reply) (after : DeskState) (now : SessionView) : Type 0 where
  pub fault : MessageFault
  pub fault_is : first_fault body ≡ Some fault
  pub reply_is : IsOrMemory (message_refusal fault) reply
  pub unchanged : IsAsBefore before old after now

pub record IsSpelt (feed : Feed) (number : ℕ) (commit : Bool) (body : List ℕ) (before : DeskState) (old : SessionView) (reply : Reply) (after : DeskState) (now : SessionView) : Type 0 where
  pub message : Message
  pub spells : SpellsMessage body message
  pub step : MessageStep commit feed number message before old reply after now

-- an update of a real-time feed by a body
abbrev pub UpdateStep : Feed → ℕ → Bool → List ℕ → DeskState → SessionView → Reply → DeskState → SessionView → Type 0
UpdateStep feed number commit body before old reply after now =
    IsStopped before old reply after now
    ⊎ (IsUnspelt body before old reply after now ⊎ IsSpelt feed number commit body before old reply after now)

-- what changes a desk
abbrev pub ChangeStep : Feed → Asked → List ℕ → DeskState → SessionView → Reply → DeskState → SessionView → Type 0
ChangeStep feed (asked.Plan r) body before old reply after now = ⊥
ChangeStep feed asked.Status body before old reply after now = ⊥
ChangeStep feed (asked.Update number commit) body before old reply after now = UpdateStep feed number commit body before old reply after now
ChangeStep feed asked.Commit body before old reply after now = CommitStep before old reply after now

-- whether an update of one of so many feeds, or a commit, is asked for
abbrev pub IsChange : ℕ → Asked → Type 0
IsChange feeds (asked.Plan r) = ⊥
IsChange feeds asked.Status = ⊥
IsChange feeds (asked.Update number commit) = (1 ≤ number) × (number ≤ feeds)
IsChange feeds asked.Commit = Unit {0}
