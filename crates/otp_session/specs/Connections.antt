-- What serving the requests of a connection may do.
use Rattle.std.specs.Prelude.{◌≡◌, ℕ, List, Option, Bool}
use Rattle.std.specs.List.{Contains}
use mathlib.Core.List.{IsPrefix}
use Rattle.http_read.specs.declared.request.HttpRequest.{HttpRequest}
use Rattle.link_stream.specs.declared.service.Replied.{Replied}
use Rattle.otp_model.specs.Core.{History}
use Rattle.otp_model.specs.Desk.{DeskState}
use Rattle.otp_model.specs.declared.timetable.Edges.{Edges}
use Rattle.otp_model.specs.declared.timetable.Feed.{Feed}
use Rattle.reply_bodies.specs.declared.reply.Reply.{Reply}
use Rattle.otp_session.specs.Desks.{RequestStep}
use Rattle.otp_session.specs.Grounds.{Place}
use Rattle.otp_session.specs.Replied.{IsReplied}
use Rattle.otp_session.specs.Sessions.{SessionView, StaysAt}

-- each history that the session knew begins one that it knows
abbrev pub Grows : SessionView → SessionView → Type 0
Grows old now = (earlier : History) → Contains old.pass.known earlier → (later : History) × Contains now.pass.known later × IsPrefix earlier later

-- a request is served by its step, and the bytes are those of that step's reply
pub record IsServed (feed : Feed) (edges : Edges) (feeds : ℕ) (request : HttpRequest) (last : Bool) (replied : Replied) (before : Option DeskState) (old : SessionView) (after : Option DeskState) (now : SessionView) : Type 0 where
  pub reply : Reply
  pub step : RequestStep feed edges feeds request before old reply after now
  pub bytes : IsReplied feed reply request.close last replied

-- the same over a desk and a session, whose feed and cell stay
pub record ServesAs {D : Type 0} (state : D → Option DeskState) (place : D → Place) (feed : Feed) (edges : Edges) (feeds : ℕ) (request : HttpRequest) (last : Bool) (replied : Replied) (before : D) (old : SessionView) (after : D) (now : SessionView) : Type 0 where
  pub served : IsServed feed edges feeds request last replied (state before) old (state after) now
  pub stays : place after ≡ place before
  pub stays_at : StaysAt old now

-- the step over a desk and a session as one
abbrev pub StepOver : {D : Type 0} → (D → Option DeskState) → (D → Place) → Feed → Edges → ℕ → D × SessionView → HttpRequest → Bool → Replied → D × SessionView → Type 0
StepOver state place feed edges feeds x request last replied y = ServesAs state place feed edges feeds request last replied x.0 x.1 y.0 y.1
