-- What holds of every feed that is accepted.
use Rattle.std.specs.Prelude.{◌≡◌, ◌≢◌, ℕ, ◌+◌, ◌<◌, ◌^◌, pos, neg_ℤ, ◌+ℤ◌, ◌≤ℤ◌, List, length, IfSome}
use Rattle.std.specs.List.{All, AllPairs}
use Rattle.otp_model.specs.declared.timetable.Call.{Call}
use Rattle.otp_model.specs.declared.run_name.RunName.{RunName}
use Rattle.otp_model.specs.declared.run_name.TripName.{TripName}
use Rattle.otp_model.specs.declared.run_name.TripName.TheVariants.{Planned, Added}
use Rattle.otp_model.specs.declared.timetable.Run.{Run}
use Rattle.otp_model.specs.declared.timetable.Stop.{Stop}
use Rattle.otp_model.specs.declared.timetable.Trip.{Trip}
use Rattle.otp_model.specs.declared.timetable.Feed.{Feed}
use Rattle.otp_model.specs.Limits.{last_day}
use Rattle.otp_model.specs.Names.{IsNameBelow}
use Rattle.otp_model.specs.Ranges.{IsServiceDay}
use Rattle.otp_model.specs.Rows.{IsClock}

-- a call at one of so many stops, left no earlier than it is arrived at, with times from -2 ^ 36 to 2 ^ 36
pub record IsSoundCall (stops : ℕ) (call : Call) : Type 0 where
  pub stop : call.stop < stops
  pub forward : call.arrival ≤ℤ call.departure
  pub low : neg_ℤ (pos (2 ^ 36)) ≤ℤ call.arrival
  pub high : call.departure ≤ℤ pos (2 ^ 36)

-- the later call has the greater sequence, and is arrived at no earlier than the other is left
pub record IsLaterCall (earlier later : Call) : Type 0 where
  pub rises : earlier.seq < later.seq
  pub forward : earlier.departure ≤ℤ later.arrival

-- the name of a run of one of so many trips of the feed, on a day of the years 1970 to 2999, with a time of day as
-- its start if it has one
pub record IsSoundName (trips : ℕ) (name : RunName) : Type 0 where
  pub number : ℕ
  pub planned : name.trip ≡ Planned number
  pub trip : number < trips
  pub day : IsServiceDay name.day
  pub start : IsClock name.start

-- a run of so many trips at so many stops
pub record IsSoundRun (stops trips : ℕ) (run : Run) : Type 0 where
  pub name : IsSoundName trips run.name
  pub calls : All (IsSoundCall stops) run.calls
  pub along : AllPairs IsLaterCall run.calls

-- runs in the order of their names, no two of which are the same
abbrev pub IsRunBelow : Run → Run → Type 0
IsRunBelow a b = IsNameBelow a.name b.name

pub record IsSound (feed : Feed) : Type 0 where
  pub few_stops : length feed.stops < 2 ^ 32
  pub few_trips : length feed.trips < 2 ^ 32
  pub few_runs : length feed.runs < 2 ^ 32
  pub parents : All (λ (stop : Stop). IfSome stop.parent (λ parent. parent < length feed.stops)) feed.stops
  pub stop_ids : AllPairs (λ (a b : Stop). a.id ≢ b.id) feed.stops
  pub trip_ids : AllPairs (λ (a b : Trip). a.id ≢ b.id) feed.trips
  pub first_day : pos 0 ≤ℤ feed.first_day
  pub last_day : (feed.first_day +ℤ pos feed.days) ≤ℤ pos (last_day + 1)
  pub runs : All (IsSoundRun (length feed.stops) (length feed.trips)) feed.runs
  pub run_names : AllPairs IsRunBelow feed.runs

-- ---- what holds of every schedule over such a feed

-- a call at one of so many stops, left no earlier than it is arrived at, with times from -2 ^ 41 to 2 ^ 41
pub record IsServedCall (stops : ℕ) (call : Call) : Type 0 where
  pub stop : call.stop < stops
  pub forward : call.arrival ≤ℤ call.departure
  pub low : neg_ℤ (pos (2 ^ 41)) ≤ℤ call.arrival
  pub high : call.departure ≤ℤ pos (2 ^ 41)

-- one of so many trips of a feed, or one that a message brought
abbrev pub IsServedTrip : ℕ → TripName → Type 0
IsServedTrip trips (Planned number) = number < trips
IsServedTrip trips (Added text) = Unit {0}

-- a run of one of so many trips, or an added one, on a day of the years 1970 to 2999, at so many stops, that arrives
-- at no call before it left an earlier one
pub record IsServedRun (stops trips : ℕ) (run : Run) : Type 0 where
  pub trip : IsServedTrip trips run.name.trip
  pub day : IsServiceDay run.name.day
  pub calls : All (IsServedCall stops) run.calls
  pub along : AllPairs (λ (earlier later : Call). earlier.departure ≤ℤ later.arrival) run.calls

abbrev pub AreServed : Feed → List Run → Type 0
AreServed feed runs = All (IsServedRun (length feed.stops) (length feed.trips)) runs
