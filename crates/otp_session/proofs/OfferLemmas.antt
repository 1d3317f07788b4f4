-- An update that is committed at once.
use Rattle.std.proofs.Common.{◌≡◌, ℕ, ◌<◌, ◌^◌, List, length, Option, Some, inl, inr, ap, subst, sym}
use Rattle.std.specs.Prelude.{◌⊎◌}
use Rattle.otp_model.specs.Desk.{Accepted, DeskState, acceptance_by, accepts}
use Rattle.otp_model.specs.Resolution.{ignored}
use Rattle.otp_model.specs.declared.message.Message.{Message}
use Rattle.otp_model.specs.declared.timetable.Feed.{Feed}
use Rattle.plan_json.specs.declared.body.Body.TheVariants.{Updated}
use Rattle.reply_bodies.specs.declared.reply.Reply.{Reply}
use Rattle.otp_session.specs.Changes.{CommittingStep, HasCommitted, IsStopped}
use Rattle.otp_session.specs.Sessions.{SessionView}

-- once the message was accepted, what was pending is committed
pub accepted_commits : (feed : Feed) (number : ℕ) (message : Message) (before mid after : DeskState) (old now : SessionView) (reply : Reply) (count : ℕ) (told : List ℕ)
    → length before.history < 2 ^ 40 → acceptance_by number message before ≡ Some (Accepted count) → mid ≡ accepts number message before → told ≡ ignored feed message
    → IsStopped mid old reply after now ⊎ HasCommitted (λ made. Updated count (Some made) told) mid old reply after now
    → CommittingStep feed number message before old reply after now
accepted_commits feed number message before mid after old now reply count told room accepted mid_is told_is step =
    inr (
      room,
      inr (record {
        acceptance = Accepted count;
        acceptance_is = accepted;
        goes_on = subst (λ mid. IsStopped mid old reply after now ⊎ HasCommitted (λ made. Updated count (Some made) (ignored feed message)) mid old reply after now) mid_is
            (subst (λ told. IsStopped mid old reply after now ⊎ HasCommitted (λ made. Updated count (Some made) told) mid old reply after now) told_is step);
      }),
    )
