-- The ranges of what is searched.
use Rattle.std.specs.Prelude.{◌^◌, ◌<◌, ◌≤◌, ℤ, pos, neg_ℤ, ◌≤ℤ◌, List, length}
use Rattle.std.specs.List.{All, AllPairs}
use Rattle.otp_model.specs.Limits.{last_day, last_first_day, least_speed, least_walk_points, most_board_points, most_days, most_feeds, most_reach, most_rides, most_scale, most_speed, most_time, most_walk_points}
use Rattle.otp_model.specs.Plane.{IsPlaceOf}
use Rattle.otp_model.specs.declared.timetable.Call.{Call}
use Rattle.otp_model.specs.declared.timetable.Edges.{Edges}
use Rattle.otp_model.specs.declared.timetable.Run.{Run}
use Rattle.otp_model.specs.declared.options.Options.{Options}
use Rattle.otp_model.specs.declared.timetable.Profile.{Profile}
use Rattle.otp_model.specs.declared.journey.Request.{Request}
use Rattle.otp_model.specs.declared.journey.Leg.{Leg}
use Rattle.otp_model.specs.declared.journey.Leg.TheVariants.{Walk, Ride}

-- a time that may be searched
pub record IsTime (t : ℤ) : Type 0 where
  pub low : neg_ℤ (pos most_time) ≤ℤ t
  pub high : t ≤ℤ pos most_time

-- a walk, or a ride whose times are in range
abbrev pub IsLegInRange : Leg → Type 0
IsLegInRange (Walk seconds) = Unit {0}
IsLegInRange (Ride name board alight) = IsTime board.departure × IsTime alight.arrival

abbrev pub IsCallInRange : Call → Type 0
IsCallInRange call = IsTime call.arrival × IsTime call.departure

-- the call is left no earlier than it is arrived at
abbrev pub IsLeftInOrder : Call → Type 0
IsLeftInOrder call = call.arrival ≤ℤ call.departure

-- a run whose times are in range, and that leaves no call before it arrived there, and arrives at none before it left an
-- earlier one
pub record IsTimely (run : Run) : Type 0 where
  pub in_range : All IsCallInRange run.calls
  pub along : All IsLeftInOrder run.calls
  pub forward : AllPairs (λ earlier later. earlier.departure ≤ℤ later.arrival) run.calls

-- the numbers of a request are in range
pub record IsRequestInRange (r : Request) : Type 0 where
  pub rides : (1 ≤ r.rides) × (r.rides ≤ most_rides)
  pub walk_points : (least_walk_points ≤ r.walk_points) × (r.walk_points ≤ most_walk_points)
  pub board_points : r.board_points ≤ most_board_points

-- a day of the years 1970 to 2999
pub record IsServiceDay (day : ℤ) : Type 0 where
  pub low : pos 0 ≤ℤ day
  pub high : day ≤ℤ pos last_day

-- the numbers of a profile are in range
pub record IsProfileInRange (profile : Profile) : Type 0 where
  pub speed : (least_speed ≤ profile.speed) × (profile.speed ≤ most_speed)
  pub reach : profile.reach ≤ most_reach
  pub scale : profile.scale ≤ most_scale

-- how far and how fast people walk is within what walks are computed for
pub record CanWalk (profile : Profile) : Type 0 where
  pub reach : profile.reach ≤ most_reach
  pub speed : 0 < profile.speed

-- what a search asks for
pub record CanSearch (runs : List Run) (edges : Edges) (r : Request) : Type 0 where
  pub timely : All IsTimely runs
  pub numbers : IsRequestInRange r
  pub walks : CanWalk edges.profile
  pub stops : length edges.stops < 2 ^ 32
  pub from : IsPlaceOf edges.stops r.from
  pub to : IsPlaceOf edges.stops r.to

-- a first day of the years 1970 to 2998, and numbers in their ranges
pub record AreOptionsInRange (options : Options) : Type 0 where
  pub first_day : (pos 0 ≤ℤ options.first_day) × (options.first_day ≤ℤ pos last_first_day)
  pub days : (1 ≤ options.days) × (options.days ≤ most_days)
  pub feeds : (1 ≤ options.feeds) × (options.feeds ≤ most_feeds)
  pub profile : IsProfileInRange options.profile
