-- What a world begins with.
use Rattle.std.specs.Prelude.{◌≡◌, ℕ, [], length}
use Rattle.std.specs.Arc.{arc_value}
use Rattle.std.specs.List.{All}
use Rattle.otp_model.specs.Desk.{fresh_desk}
use Rattle.otp_model.specs.declared.timetable.Edges.{Edges}
use Rattle.otp_model.specs.declared.timetable.Feed.{Feed}
use Rattle.commit_desk.specs.Desks.{writer_of}
use Rattle.commit_history.specs.Views.{fresh_pass}
use Rattle.otp_session.specs.Grounds.{IsGroundOf, place_of}
use Rattle.otp_session.specs.Sessions.{SessionView, fresh_session}
use Rattle.otp_session.specs.declared.opening.Opened.{Opened}

-- Nothing is published or accepted of so many real-time feeds, and so many sessions know nothing. The ground has the feed and the
-- edges, and is that of the desk.
pub record IsOpened (feed : Feed) (edges : Edges) (feeds seats : ℕ) (opened : Opened) : Type 0 where
  pub feed_is : arc_value opened.base.feed ≡ feed
  pub edges_are : opened.base.edges ≡ edges
  pub base : IsGroundOf opened.base (place_of opened.desk)
  pub state : opened.desk.state ≡ fresh_desk feeds
  pub count : length opened.sessions.items ≡ seats
  pub sessions : All (λ session. session ≡ fresh_session (fresh_pass (writer_of opened.desk))) opened.sessions.items
