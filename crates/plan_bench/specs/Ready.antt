-- What plans are measured over.
use Rattle.std.specs.Prelude.{◌≡◌, ◌<◌, ◌≤◌, ◌^◌, List, length}
use Rattle.std.specs.List.{All}
use Rattle.otp_model.specs.Limits.{most_scale}
use Rattle.otp_model.specs.Ranges.{CanWalk, IsTimely}
use Rattle.otp_model.specs.declared.timetable.Edges.{Edges}
use Rattle.otp_model.specs.declared.timetable.Feed.{Feed}
use Rattle.otp_model.specs.declared.timetable.Run.{Run}

-- a feed with edges between its stops, whose profile is in its ranges, and whose times can be searched
pub record IsReady (feed : Feed) (edges : Edges) : Type 0 where
  pub timely : All IsTimely feed.runs
  pub few : length feed.stops < 2 ^ 32
  pub stops : edges.stops ≡ feed.stops
  pub walks : CanWalk edges.profile
  pub scale : edges.profile.scale ≤ most_scale
