-- The runs of a feed: for each day and each trip whose service runs on it one, or one for each of its starts, by
-- day, then by trip and then by start (GTFS Schedule reference, `stop_times.txt`, `frequencies.txt` and "Time": times
-- count from noon less 12 hours of the service day).
use Rattle.std.specs.Prelude.{◌==◌, ◌^◌, ◌<◌, ℕ, ℤ, pos, ◌+ℤ◌, ◌-ℤ◌, ◌≤ℤ◌, ◌<ℤ◌, List, [], ◌∷◌, length, map, Option, None, Some, Bool, if◌then◌else◌, slice_get, sum_by}
use Rattle.std.specs.List.{All, AllPairs, flat_map, list_any, range_with_len}
use Rattle.std.specs.List.Sorted.{IsStrictlyIncreasing}
use Rattle.gtfs_links.specs.declared.feed.HeadwayRow.{HeadwayRow}
use Rattle.otp_model.specs.Limits.{clock_end}
use Rattle.otp_model.specs.Ranges.{IsServiceDay}
use Rattle.otp_model.specs.Rows.{IsWithin}
use Rattle.otp_model.specs.Sound.{IsLaterCall, IsRunBelow, IsSoundRun}
use Rattle.otp_model.specs.declared.options.Options.{Options}
use Rattle.otp_model.specs.declared.run_name.TripName.TheVariants.{Planned}
use Rattle.otp_model.specs.declared.tables.Tables.{Tables}
use Rattle.otp_model.specs.declared.timetable.Call.{Call}
use Rattle.otp_model.specs.declared.timetable.Run.{Run}
use Rattle.otp_model.specs.declared.timetable.Trip.{Trip}
use Rattle.otp_model.specs.declared.timetable.Zone.{Zone}
use Rattle.service_days.specs.Active.{active_services}
use Rattle.service_days.specs.LocalTime.{start_of}
use Rattle.feed_load.specs.Starts.{starts_of}
use Rattle.feed_load.specs.declared.service_day.ServiceDay.{ServiceDay}

-- a call whose times count from this instant
abbrev pub call_from : ℤ → Call → Call
call_from instant call = record call { arrival = instant +ℤ call.arrival; departure = instant +ℤ call.departure }

-- by how much the times of a run with a start are moved: its first departure is at the start
abbrev pub shift_of : Option ℕ → List Call → ℤ
shift_of None calls = pos 0
shift_of (Some start) [] = pos 0
shift_of (Some start) (first ∷ calls) = pos start -ℤ first.departure

-- whether a service is among those of the day
abbrev pub is_among : List ℕ → ℕ → Bool
is_among services service = list_any (λ n. n == service) services

-- the times of a call are at most 999:59:59
pub record HasClock (call : Call) : Type 0 where
  pub arrival : IsWithin clock_end call.arrival
  pub departure : IsWithin clock_end call.departure

-- a day of service
abbrev pub service_day : Tables → Zone → ℤ → ServiceDay
service_day tables zone day = record { day = day; start = start_of zone day; services = active_services tables day }

-- the days over which a feed is loaded
abbrev pub days_of : Tables → Options → List ServiceDay
days_of tables options = map (λ n. service_day tables options.zone (options.first_day +ℤ pos n)) (range_with_len 0 options.days)

abbrev pub IsEarlier : ServiceDay → ServiceDay → Type 0
IsEarlier a b = a.day <ℤ b.day

-- the run of the trip of this number on a day, by its start if it has one
abbrev pub run_from : ServiceDay → ℕ → List Call → Option ℕ → Run
run_from day n calls start = record {
  name = record { trip = Planned n; day = day.day; start = start };
  calls = map (call_from (day.start +ℤ shift_of start calls)) calls;
}

-- its runs at these starts, if its service runs on the day
abbrev pub runs_of_trip : ServiceDay → ℕ → Option Trip → Option (List Call) → List (Option ℕ) → List Run
runs_of_trip day n None calls starts = []
runs_of_trip day n (Some trip) None starts = []
runs_of_trip day n (Some trip) (Some calls) starts = if is_among day.services trip.service then map (run_from day n calls) starts else []

-- the same, where trips and their calls stand in two lists
abbrev pub runs_at : List Trip → List (List Call) → List HeadwayRow → ServiceDay → ℕ → List Run
runs_at trips calls headways day n = runs_of_trip day n (slice_get trips n) (slice_get calls n) (starts_of headways n)

-- the runs of a day, trip by trip
abbrev pub runs_of_day : List Trip → List (List Call) → List HeadwayRow → ServiceDay → List Run
runs_of_day trips calls headways day = flat_map (runs_at trips calls headways day) (range_with_len 0 (length trips))

-- the runs of the days
abbrev pub runs_of : List Trip → List (List Call) → List HeadwayRow → List ServiceDay → List Run
runs_of trips calls headways days = flat_map (runs_of_day trips calls headways) days

-- how many calls runs have
abbrev pub call_count : List Run → ℕ
call_count runs = sum_by (λ run. length run.calls) runs

-- the services of a day rise, and it starts in the years that days may be of
pub record IsSoundDay (day : ServiceDay) : Type 0 where
  pub of_years : IsServiceDay day.day
  pub starts : IsWithin (2 ^ 35) day.start
  pub rises : IsStrictlyIncreasing day.services

-- The calls of a trip at so many stops: some, each left no earlier than it is arrived at, by rising sequence and
-- with no time before an earlier one.
pub record IsSoundTrip (stops : ℕ) (calls : List Call) : Type 0 where
  pub some : 0 < length calls
  pub stops_are : All (λ (call : Call). call.stop < stops) calls
  pub clocks : All HasClock calls
  pub stays : All (λ (call : Call). call.arrival ≤ℤ call.departure) calls
  pub along : AllPairs IsLaterCall calls

-- runs of so many trips at so many stops: each sound, with some calls, and rising by their names
pub record AreSoundRuns (stops trips : ℕ) (runs : List Run) : Type 0 where
  pub each : All (IsSoundRun stops trips) runs
  pub some : All (λ (run : Run). 0 < length run.calls) runs
  pub rise : AllPairs IsRunBelow runs
