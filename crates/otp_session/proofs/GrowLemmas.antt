-- What a session knows only grows.
use Rattle.std.proofs.Common.{◌≡◌, ℕ, List, [], ◌∷◌, ◌++◌, Option, Some, None, Result, Ok, Err, Bool, true, false, inl, inr, refl, sym, ap, subst, lit<, length}
use Rattle.std.specs.List.{Contains}
use Rattle.std.proofs.lemmas.List.Elements.{All-contains, Contains-append_left}
use mathlib.Core.List.{IsPrefix}
use Rattle.otp_model.proofs.CoreLemmas.{prefix_self, prefix_trans}
use Rattle.otp_model.specs.Core.{Extends, History, keep}
use Rattle.otp_model.specs.Desk.{Acceptance, Accepted, DeskState, Older, Spent, pending_in}
use Rattle.otp_model.specs.declared.journey.Request.{Request}
use Rattle.otp_model.specs.declared.message.Message.{Message}
use Rattle.otp_model.specs.declared.timetable.Edges.{Edges}
use Rattle.otp_model.specs.declared.timetable.Feed.{Feed}
use Rattle.plan_json.specs.declared.body.Body.{Body}
use Rattle.plan_json.specs.declared.body.Body.TheVariants.{Committed}
use Rattle.commit_desk.specs.Desks.{has_pending}
use Rattle.http_read.specs.declared.request.HttpRequest.{HttpRequest}
use Rattle.query_form.specs.Target.{asked_of}
use Rattle.query_form.specs.declared.asked.Asked.{Asked}
use Rattle.query_form.specs.declared.asked.Asked.TheVariants as asked
use Rattle.query_form.specs.declared.fault.TargetFault.{TargetFault}
use Rattle.reply_bodies.specs.declared.reply.Reply.{Reply}
use Rattle.reply_bodies.specs.declared.reply.Reply.TheVariants.{Answer, Memory}
use Rattle.commit_history.specs.Views.{EnteredAt, PassView}
use Rattle.otp_session.specs.Changes.{ChangeStep, CommitStep, GoesOn, IsAsBefore, IsStopped, Looks, MessageStep, UpdateStep, updated_body}
use Rattle.otp_session.specs.Connections.{Grows}
use Rattle.otp_session.specs.Desks.{AskedStep, ChangeTold, RequestStep, TargetStep}
use Rattle.otp_session.specs.Sessions.{HasGivenUp, LooksAt, SessionView, handed_back, opened, told}
use Rattle.otp_session.specs.Steps.{LookStep, PlanStep, PlansOver, StatusStep, pinned_by}

pub grows_same : (old now : SessionView) → now ≡ old → Grows old now
grows_same old now same earlier at = (earlier, subst (λ (session : SessionView). Contains session.pass.known earlier) (sym same) at, prefix_self earlier)

pub grows_then : (old mid now : SessionView) → Grows old mid → Grows mid now → Grows old now
grows_then old mid now first second earlier at =
    let one = first earlier at in
    let two = second one.0 one.1 in
    (two.0, two.1, prefix_trans earlier one.0 two.0 one.2 two.2)

pub grows_back : (old now : SessionView) → now ≡ handed_back old → Grows old now
grows_back old now same earlier at = (earlier, subst (λ (session : SessionView). Contains session.pass.known earlier) (sym same) at, prefix_self earlier)

grows_told : (old now : SessionView) (published : History) → now ≡ handed_back (told old published) → Grows old now
grows_told old now published same earlier at = (
  earlier,
  subst (λ (session : SessionView). Contains session.pass.known earlier) (sym same) (Contains-append_left old.pass.known (published ∷ []) earlier at),
  prefix_self earlier,
)

-- a pass that has entered
grows_entered : (old now : SessionView) (history : History) → EnteredAt old.pass now.pass history → Grows old now
grows_entered old now history at earlier there = (
  history,
  subst (λ (pass : PassView). Contains pass.known history) (sym at.1) (0, lit< tt, refl),
  All-contains (λ earlier. IsPrefix earlier history) old.pass.known earlier at.0 there,
)

pub given_up_grows : (old now : SessionView) → HasGivenUp old now → Grows old now
given_up_grows old now (inl same) = grows_same old now same
given_up_grows old now (inr (inl back)) = grows_back old now back
given_up_grows old now (inr (inr (history, inl takes))) = grows_entered old now history takes.0
given_up_grows old now (inr (inr (history, inr keeps))) = grows_entered old now history keeps.0

-- ---- looks

module _ (feed : Feed) (edges : Edges) where
  plans_grow : (r : Request) (pinned : Option History) (old now : SessionView) (reply : Reply) → PlansOver feed edges r pinned old reply now → Grows old now
  plans_grow r (Some history) old now (Answer status body) step = grows_same old now step.1
  plans_grow r (Some history) old now Memory step = grows_same old now step.1
  plans_grow r None old now (Answer status body) (inl (history, keeps, plan)) = grows_entered old now history keeps.0
  plans_grow r None old now (Answer status body) (inr turned) = grows_back old now turned.1
  plans_grow r None old now Memory step = given_up_grows old now step

  status_grows : (old now : SessionView) (reply : Reply) → StatusStep old reply now → Grows old now
  status_grows old now (Answer status body) (inl (history, takes, said)) = grows_entered old now history takes.0
  status_grows old now (Answer status body) (inr turned) = grows_back old now turned.1
  status_grows old now Memory step = given_up_grows old now step

  look_grows : (asked : Asked) (old now : SessionView) (reply : Reply) → LookStep feed edges asked old reply now → Grows old now
  look_grows (asked.Plan r) old now reply step = plans_grow r (pinned_by r old.kept) old now reply step
  look_grows asked.Status old now reply step = status_grows old now reply step
  look_grows (asked.Update number commit) old now reply step = absurd step
  look_grows asked.Commit old now reply step = absurd step

  -- ---- changes

  looks_grow : (body_of : ℕ → Body) (published : History) (old now : SessionView) (reply : Reply) → Looks body_of published old reply now → Grows old now
  looks_grow body_of published old now (Answer status body) (inl (history, looks, said)) = grows_entered old now history looks.0.1
  looks_grow body_of published old now (Answer status body) (inr turned) = grows_told old now published turned.1
  looks_grow body_of published old now Memory (inl (history, looks)) = grows_entered old now history looks.0.1
  looks_grow body_of published old now Memory (inr back) = grows_told old now published back

  commit_grows : (before after : DeskState) (old now : SessionView) (reply : Reply) → CommitStep before old reply after now → Grows old now
  commit_grows before after old now reply (inl spent) = grows_same old now spent.2.1
  commit_grows before after old now reply (inr (room, inl stopped)) = grows_same old now stopped.1.1
  commit_grows before after old now reply (inr (room, inr made)) = looks_grow (λ number. Committed number (has_pending (pending_in before.slots))) after.history old now reply made.1

  goes_grow : (number : ℕ) (message : Message) (acceptance : Acceptance) (before after : DeskState) (old now : SessionView) (reply : Reply)
      → GoesOn feed number message acceptance before old reply after now → Grows old now
  goes_grow number message (Accepted count) before after old now reply (inl stopped) = grows_same old now stopped.1.1
  goes_grow number message (Accepted count) before after old now reply (inr made) = looks_grow (λ number. updated_body feed message count (Some number)) after.history old now reply made.1
  goes_grow number message (Older have) before after old now reply step = grows_same old now step.1.1
  goes_grow number message Spent before after old now reply step = grows_same old now step.1.1

  message_grows : (commit : Bool) (number : ℕ) (message : Message) (before after : DeskState) (old now : SessionView) (reply : Reply)
      → MessageStep commit feed number message before old reply after now → Grows old now
  message_grows false number message before after old now reply (inl stopped) = grows_same old now stopped.1.1
  message_grows false number message before after old now reply (inr offered) = grows_same old now offered.1
  message_grows true number message before after old now reply (inl spent) = grows_same old now spent.2.1
  message_grows true number message before after old now reply (inr (room, inl stopped)) = grows_same old now stopped.1.1
  message_grows true number message before after old now reply (inr (room, inr committing)) = goes_grow number message committing.acceptance before after old now reply committing.goes_on

  change_grows : (asked : Asked) (body : List ℕ) (before after : DeskState) (old now : SessionView) (reply : Reply) → ChangeStep feed asked body before old reply after now → Grows old now
  change_grows (asked.Plan r) body before after old now reply step = absurd step
  change_grows asked.Status body before after old now reply step = absurd step
  change_grows (asked.Update number commit) body before after old now reply (inl stopped) = grows_same old now stopped.1.1
  change_grows (asked.Update number commit) body before after old now reply (inr (inl unspelt)) = grows_same old now unspelt.unchanged.1
  change_grows (asked.Update number commit) body before after old now reply (inr (inr spelt)) = message_grows commit number spelt.message before after old now reply spelt.step
  change_grows asked.Commit body before after old now reply step = commit_grows before after old now reply step

  told_grows : (asked : Asked) (body : List ℕ) (before after : Option DeskState) (old now : SessionView) (reply : Reply) → ChangeTold feed asked body before old reply after now → Grows old now
  told_grows asked body (Some before) (Some after) old now reply step = change_grows asked body before after old now reply step
  told_grows asked body None None old now reply (before, after, step) = change_grows asked body before after old now reply step
  told_grows asked body (Some before) None old now reply step = absurd step
  told_grows asked body None (Some after) old now reply step = absurd step

  -- ---- requests

  asked_grows : (asked : Asked) (body : List ℕ) (before after : Option DeskState) (old now : SessionView) (reply : Reply) → AskedStep feed edges asked body before old reply after now → Grows old now
  asked_grows (asked.Plan r) body before after old now reply step = look_grows (asked.Plan r) old now reply step.1
  asked_grows asked.Status body before after old now reply step = look_grows asked.Status old now reply step.1
  asked_grows (asked.Update number commit) body before after old now reply step = told_grows (asked.Update number commit) body before after old now reply step
  asked_grows asked.Commit body before after old now reply step = told_grows asked.Commit body before after old now reply step

  target_grows : (target : Result Asked TargetFault) (body : List ℕ) (before after : Option DeskState) (old now : SessionView) (reply : Reply)
      → TargetStep feed edges target body before old reply after now → Grows old now
  target_grows (Ok asked) body before after old now reply step = asked_grows asked body before after old now reply step
  target_grows (Err fault) body before after old now reply step = grows_same old now step.1.1

  pub request_grows : (feeds : ℕ) (request : HttpRequest) (before after : Option DeskState) (old now : SessionView) (reply : Reply)
      → RequestStep feed edges feeds request before old reply after now → Grows old now
  request_grows feeds request before after old now reply (inl stopped) = grows_same old now stopped.1.1
  request_grows feeds request before after old now reply (inr step) =
      target_grows (asked_of request.method request.target feed.stops edges.profile.scale feeds) request.body before after old now reply step

-- a session at the start of a connection knows what it knew
pub grows_opened : (old now : SessionView) → now ≡ opened old → Grows old now
grows_opened old now same earlier at = (earlier, subst (λ (session : SessionView). Contains session.pass.known earlier) (sym same) at, prefix_self earlier)
