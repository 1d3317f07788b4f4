-- Over which feed, and on which desk, sessions serve.
use Rattle.std.specs.Prelude.{◌≡◌, ℕ, List, [], length, pos}
use Rattle.std.specs.Arc.{arc_value}
use Rattle.jiff_tz.specs.declared.timezone.TimeZone.TheVariants as timezone
use Rattle.logbook.specs.Pages.{Book}
use Rattle.otp_model.specs.declared.timetable.Feed.{Feed}
use Rattle.commit_desk.specs.Desks.{DeskView}
use Rattle.reply_bodies.specs.Plans.{IsSearchable}
use Rattle.otp_session.specs.Sessions.{SessionView}
use Rattle.otp_session.specs.declared.base.Ground.{Ground}

-- a desk's feed, the cell of its history, and how many real-time feeds it takes
pub record Place : Type 0 where
  pub feed : Feed
  pub cell : Book
  pub feeds : ℕ

abbrev pub place_of : DeskView → Place
place_of desk = record { feed = desk.feed; cell = desk.cell; feeds = length desk.state.slots }

-- the feed may be searched with the edges
abbrev pub IsReady : Ground → Type 0
IsReady base = IsSearchable (arc_value base.feed) base.edges

-- the ground is that of the desk
pub record IsGroundOf (base : Ground) (place : Place) : Type 0 where
  pub ready : IsReady base
  pub feed : arc_value base.feed ≡ place.feed
  pub feeds : base.feeds ≡ place.feeds

-- the session's pass is of the desk's history
pub record IsAt (place : Place) (session : SessionView) : Type 0 where
  pub feed : session.pass.feed ≡ place.feed
  pub cell : session.pass.cell ≡ place.cell

-- the place of a name that nobody has picked
abbrev pub nowhere : Place
nowhere = record {
  feed = record { stops = []; trips = []; runs = []; zone = record { rule = record { inner = timezone.UTC } }; first_day = pos 0; days = 0 };
  cell = record { number = 0; log_name = 0; cells_name = 0 };
  feeds = 0;
}
