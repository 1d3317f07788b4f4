-- What replies say, by cases on whether memory ran out.
use Rattle.std.proofs.Common.{◌≡◌, ℕ, List, [], ◌∷◌, Option, Some, None, inl, inr, refl, sym, ap, subst, length}
use Rattle.std.specs.Arc.{arc_value}
use Rattle.std.specs.Borrow.{Bor}
use Rattle.commit_history.specs.Entries.{IsEntry}
use Rattle.commit_history.specs.declared.pass.View.{View}
use Rattle.otp_model.specs.Core.{History, keep_known}
use Rattle.otp_model.specs.declared.journey.Request.{Request}
use Rattle.otp_model.specs.declared.timetable.Edges.{Edges}
use Rattle.otp_model.specs.declared.timetable.Feed.{Feed}
use Rattle.pin_ring.specs.Kept.{IsViewOf}
use Rattle.plan_json.specs.declared.body.Body.{Body}
use Rattle.query_form.specs.declared.fault.QueryFault.TheVariants as query
use Rattle.query_form.specs.declared.fault.TargetFault.{TargetFault}
use Rattle.query_form.specs.declared.fault.TargetFault.TheVariants as target
use Rattle.pb_wire.specs.declared.field.WireFault.TheVariants as wire
use Rattle.rt_reader.specs.declared.fault.MessageFault.{MessageFault}
use Rattle.rt_reader.specs.declared.fault.MessageFault.TheVariants as message
use Rattle.reply_bodies.specs.Refusals.{IsOrMemory, message_refusal, target_refusal, turned_refusal}
use Rattle.reply_bodies.specs.declared.reply.Reply.{Reply}
use Rattle.reply_bodies.specs.declared.reply.Reply.TheVariants.{Answer, Memory}
use Rattle.otp_session.specs.Changes.{Looks}
use Rattle.otp_session.specs.Sessions.{HasGivenUp, LooksAt, SessionView, TakesAt, handed_back, told}
use Rattle.otp_session.specs.Steps.{IsPlanOver, IsSendable, IsStatusOver, PlansOver, StatusStep}
use Rattle.otp_session.proofs.SessionLemmas.{keeps_at}

-- ---- refusals

pub said_sendable : (feed : Feed) (expected reply : Reply) → IsSendable feed expected → IsOrMemory expected reply → IsSendable feed reply
said_sendable feed expected (Answer status body) sendable same = subst (IsSendable feed) (sym same) sendable
said_sendable feed expected Memory sendable same = tt

pub message_sendable : (feed : Feed) (fault : MessageFault) → IsSendable feed (message_refusal fault)
message_sendable feed (message.Wire (wire.Cut at)) = (refl, tt)
message_sendable feed (message.Wire (wire.LongVarint at)) = (refl, tt)
message_sendable feed (message.Wire (wire.Group at)) = (refl, tt)
message_sendable feed (message.Wire (wire.ZeroField at)) = (refl, tt)
message_sendable feed (message.Wire wire.Memory) = tt
message_sendable feed message.NoHeader = (refl, tt)
message_sendable feed message.Differential = (refl, tt)
message_sendable feed (message.NotText at) = (refl, tt)
message_sendable feed (message.Repeated at) = (refl, tt)
message_sendable feed (message.WrongType at) = (refl, tt)
message_sendable feed message.Memory = tt

pub target_sendable : (feed : Feed) (fault : TargetFault) → IsSendable feed (target_refusal fault)
target_sendable feed target.Path = (refl, tt)
target_sendable feed target.FeedNumber = (refl, tt)
target_sendable feed target.Method = (refl, tt)
target_sendable feed (target.Query query.Missing parameter) = (refl, tt)
target_sendable feed (target.Query query.Bad parameter) = (refl, tt)
target_sendable feed (target.Query query.Twice parameter) = (refl, tt)
target_sendable feed (target.Query query.UnknownPlace parameter) = (refl, tt)
target_sendable feed target.Memory = tt

-- ---- a status

pub status_turned : (old now : SessionView) (reply : Reply) → IsOrMemory turned_refusal reply → now ≡ handed_back old → StatusStep old reply now
status_turned old now (Answer status body) same back = inr (same, back)
status_turned old now Memory same back = inr (inl back)

pub taken_gives_up : (old now : SessionView) (history : History) → TakesAt old now history → HasGivenUp old now
taken_gives_up old now history takes = inr (inr (history, inl takes))

-- ---- a plan

module _ (feed : Feed) (edges : Edges) (r : Request) where
  pub plan_turned : (old now : SessionView) (reply : Reply) → IsOrMemory turned_refusal reply → now ≡ handed_back old → PlansOver feed edges r None old reply now
  plan_turned old now (Answer status body) same back = inr (same, back)
  plan_turned old now Memory same back = inr (inl back)

  -- a plan over a view that the session took and keeps
  pub plan_taken : (old mid now : SessionView) (history : History) (reply : Reply) → TakesAt old mid history → now ≡ record mid { kept = keep_known mid.kept mid.pass.known }
      → IsPlanOver feed edges r history reply → PlansOver feed edges r None old reply now
  plan_taken old mid now history (Answer status body) takes same plan = inl (history, keeps_at old mid now history takes same, plan)
  plan_taken old mid now history Memory takes same plan = inr (inr (history, inr (keeps_at old mid now history takes same)))

  -- a plan over a kept view
  pub plan_pinned : (session : SessionView) (history : History) (reply : Reply) (pinned : Option History) → pinned ≡ Some history → IsPlanOver feed edges r history reply
      → PlansOver feed edges r pinned session reply session
  plan_pinned session history reply pinned same plan = subst (λ pinned. PlansOver feed edges r pinned session reply session) (sym same) (plan, refl)

  pub plan_unpinned : (old now : SessionView) (reply : Reply) (pinned : Option History) → pinned ≡ None → PlansOver feed edges r None old reply now → PlansOver feed edges r pinned old reply now
  plan_unpinned old now reply pinned same plan = subst (λ pinned. PlansOver feed edges r pinned old reply now) (sym same) plan

-- the kept view stands for the kept history
pub pinned_entry : (feed : Feed) (pinned : Option History) (view : Bor View) → IsViewOf feed pinned (Some view)
    → (history : History) × (pinned ≡ Some history) × IsEntry feed history view.now.number (arc_value view.now.snapshot)
pinned_entry feed None view of = absurd of
pinned_entry feed (Some history) view of = (history, refl, of)

pub pinned_none : (feed : Feed) (pinned : Option History) → IsViewOf feed pinned None → pinned ≡ None
pinned_none feed None of = refl
pinned_none feed (Some history) of = absurd of

-- ---- looking

pub looks_turned : (body_of : ℕ → Body) (published : History) (old now : SessionView) (reply : Reply) → IsOrMemory turned_refusal reply → now ≡ handed_back (told old published) → Looks body_of published old reply now
looks_turned body_of published old now (Answer status body) same back = inr (same, back)
looks_turned body_of published old now Memory same back = inr back

pub looks_told : (body_of : ℕ → Body) (published : History) (old now : SessionView) (number : ℕ) → ((history : History) × LooksAt old now published history × (number ≡ length history))
    → Looks body_of published old (Answer 200 (body_of number)) now
looks_told body_of published old now number h = inl (h.0, h.1, ap (λ number. Answer 200 (body_of number)) h.2)
