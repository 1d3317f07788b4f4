-- A change of a desk that may tell its state, and the step of each request.
use Rattle.std.specs.Prelude.{◌≡◌, ◌⊎◌, ℕ, List, Option, None, Some, Result, Ok, Err}
use Rattle.logbook.specs.Pages.{Book}
use Rattle.http_read.specs.declared.request.HttpRequest.{HttpRequest}
use Rattle.otp_model.specs.Desk.{DeskState}
use Rattle.otp_model.specs.declared.timetable.Edges.{Edges}
use Rattle.otp_model.specs.declared.timetable.Feed.{Feed}
use Rattle.query_form.specs.Target.{asked_of}
use Rattle.query_form.specs.declared.asked.Asked.{Asked}
use Rattle.query_form.specs.declared.asked.Asked.TheVariants as asked
use Rattle.query_form.specs.declared.fault.TargetFault.{TargetFault}
use Rattle.reply_bodies.specs.Refusals.{IsOrMemory, target_refusal}
use Rattle.reply_bodies.specs.declared.reply.Reply.{Reply}
use Rattle.reply_bodies.specs.declared.reply.Reply.TheVariants.{Memory}
use Rattle.otp_session.specs.Changes.{ChangeStep}
use Rattle.otp_session.specs.Sessions.{SessionView}
use Rattle.otp_session.specs.Steps.{LookStep}

-- the reply of a change, with what was asked by which body, and the feed and the cell of the desk that was lent
pub record ChangedView : Type 0 where
  pub reply : Reply
  pub asked : Asked
  pub body : List ℕ
  pub feed : Feed
  pub cell : Book

-- the step from the state that is told to the one that is told then, or from some state to some state where none is
abbrev pub ChangeTold : Feed → Asked → List ℕ → Option DeskState → SessionView → Reply → Option DeskState → SessionView → Type 0
ChangeTold feed asked body (Some before) old reply (Some after) now = ChangeStep feed asked body before old reply after now
ChangeTold feed asked body None old reply None now = (before : DeskState) × (after : DeskState) × ChangeStep feed asked body before old reply after now
ChangeTold feed asked body _ old reply _ now = ⊥

-- nothing changes
abbrev pub Rests : Option DeskState → SessionView → Option DeskState → SessionView → Type 0
Rests before old after now = (after ≡ before) × (now ≡ old)

-- what is asked is carried out
abbrev pub AskedStep : Feed → Edges → Asked → List ℕ → Option DeskState → SessionView → Reply → Option DeskState → SessionView → Type 0
AskedStep feed edges (asked.Plan r) body before old reply after now = (after ≡ before) × LookStep feed edges (asked.Plan r) old reply now
AskedStep feed edges asked.Status body before old reply after now = (after ≡ before) × LookStep feed edges asked.Status old reply now
AskedStep feed edges (asked.Update number commit) body before old reply after now = ChangeTold feed (asked.Update number commit) body before old reply after now
AskedStep feed edges asked.Commit body before old reply after now = ChangeTold feed asked.Commit body before old reply after now

-- a target is carried out, or its fault is told
abbrev pub TargetStep : Feed → Edges → Result Asked TargetFault → List ℕ → Option DeskState → SessionView → Reply → Option DeskState → SessionView → Type 0
TargetStep feed edges (Ok asked) body before old reply after now = AskedStep feed edges asked body before old reply after now
TargetStep feed edges (Err fault) body before old reply after now = IsOrMemory (target_refusal fault) reply × Rests before old after now

-- The step of a request over a feed and so many real-time feeds; or memory ran out before its target was read.
abbrev pub RequestStep : Feed → Edges → ℕ → HttpRequest → Option DeskState → SessionView → Reply → Option DeskState → SessionView → Type 0
RequestStep feed edges feeds request before old reply after now =
    ((reply ≡ Memory) × Rests before old after now)
    ⊎ TargetStep feed edges (asked_of request.method request.target feed.stops edges.profile.scale feeds) request.body before old reply after now
