-- The feed that tables spell, or the first fault that is found once their references hold: of the trips in row order,
-- a first or last call without times or times that fall, and then of what is too many.
use Rattle.std.specs.Prelude.{◌≡◌, ◌⊎◌, ℕ, ◌+◌, ◌<◌, ◌≤◌, List, IfSome, length, Result, Ok, Err, codes}
use Rattle.otp_base.specs.EachAt.{EachAt}
use Rattle.otp_model.specs.FeedFaults.{fault_at, fault_of_file, told_of}
use Rattle.otp_model.specs.Limits.{most_calls, most_edges, most_stops, most_trips}
use Rattle.otp_model.specs.declared.feed_fault.FeedCause.TheVariants as cause
use Rattle.otp_model.specs.declared.feed_fault.FeedFault.{FeedFault}
use Rattle.otp_model.specs.declared.feed_fault.FeedFault.TheVariants as feed
use Rattle.otp_model.specs.declared.feed_fault.FeedFile.TheVariants as file
use Rattle.otp_model.specs.declared.options.Options.{Options}
use Rattle.otp_model.specs.declared.tables.Tables.{Tables}
use Rattle.otp_model.specs.declared.timetable.Call.{Call}
use Rattle.otp_model.specs.declared.timetable.Run.{Run}
use Rattle.gtfs_links.specs.Linked.{linked_of}
use Rattle.gtfs_links.specs.declared.feed.Linked.{Linked}
use Rattle.walk_table.specs.Edges.{AreEdges, HasMoreEdges, edge_count}
use Rattle.walk_table.specs.Passed.{Counts, IsPassedOver}
use Rattle.feed_load.specs.Runs.{call_count, days_of, runs_of}
use Rattle.feed_load.specs.Trips.{IsFirstFault, IsTripOf}
use Rattle.feed_load.specs.declared.loading.Loaded.{Loaded}
use Rattle.feed_load.specs.declared.service_day.ServiceDay.{ServiceDay}
use Rattle.feed_load.specs.declared.trip_calls.TripFault.{TripFault}
use Rattle.feed_load.specs.declared.trip_calls.TripFault.TheVariants as trip

-- a fault that is told of a feed, if one is: want of memory tells nothing
abbrev pub IfTold : (FeedFault → Type 0) → FeedFault → Type 0
IfTold P fault = IfSome (told_of fault) P

-- the calls of each trip
pub record AreCalls (linked : Linked) (calls : List (List Call)) : Type 0 where
  pub count : length calls ≡ length linked.trips
  pub each : EachAt (IsTripOf linked.times) calls

-- the runs over the days
abbrev pub feed_runs : List ServiceDay → Linked → List (List Call) → List Run
feed_runs days linked calls = runs_of linked.trips calls linked.headways days

-- so many stops, so many trips and the calls are within their limits
pub record AreFew (stops trips : ℕ) (runs : List Run) : Type 0 where
  pub stops_are : stops ≤ most_stops
  pub trips_are : trips ≤ most_trips
  pub calls_are : call_count runs ≤ most_calls

-- the fault of the first of them that isn't
abbrev pub IsOverfull : ℕ → ℕ → List Run → FeedFault → Type 0
IsOverfull stops trips runs fault =
    ((fault ≡ fault_of_file cause.TooMany file.Stops) × (most_stops < stops))
    ⊎ ((fault ≡ fault_of_file cause.TooMany file.Trips) × (stops ≤ most_stops) × (most_trips < trips))
    ⊎ ((fault ≡ fault_of_file cause.TooMany file.StopTimes) × (stops ≤ most_stops) × (trips ≤ most_trips) × (most_calls < call_count runs))

-- the feed of linked tables
pub record IsLoaded (options : Options) (days : List ServiceDay) (linked : Linked) (loaded : Loaded) : Type 0 where
  pub calls : List (List Call)
  pub are_calls : AreCalls linked calls
  pub stops : loaded.feed.stops ≡ linked.stops
  pub trips : loaded.feed.trips ≡ linked.trips
  pub runs : loaded.feed.runs ≡ feed_runs days linked calls
  pub zone : loaded.feed.zone ≡ options.zone
  pub first_day : loaded.feed.first_day ≡ options.first_day
  pub days_are : loaded.feed.days ≡ options.days
  pub few : AreFew (length linked.stops) (length linked.trips) loaded.feed.runs
  pub edges : AreEdges linked.stops linked.transfers options.profile loaded.edges
  pub few_edges : edge_count loaded.edges.from ≤ most_edges
  pub passed : (rows : ℕ) × Counts (IsPassedOver linked.stops) linked.transfers rows × (loaded.passed ≡ linked.passed + rows)

-- a trip's fault, as one of the feed
abbrev pub trip_fault : TripFault → FeedFault
trip_fault (trip.NoTimes row) = fault_at cause.NoTimes file.StopTimes row (codes "arrival_time")
trip_fault (trip.TimesFall row) = fault_at cause.TimesFall file.StopTimes row (codes "arrival_time")
trip_fault trip.Memory = feed.Memory

-- the first fault of a trip
abbrev pub IsTimeFault : Linked → FeedFault → Type 0
IsTimeFault linked fault = (own : TripFault) × IsFirstFault linked.times own × (fault ≡ trip_fault own)

-- stops, trips, calls or edges are too many, in this order
abbrev pub IsTooMany : Options → Linked → List Run → FeedFault → Type 0
IsTooMany options linked runs fault =
    IsOverfull (length linked.stops) (length linked.trips) runs fault
    ⊎ ((fault ≡ fault_of_file cause.TooMany file.Transfers) × AreFew (length linked.stops) (length linked.trips) runs × HasMoreEdges most_edges linked.stops linked.transfers options.profile)

-- the first fault of linked tables: of a trip, or else of what is too many
abbrev pub IsLinkedFault : Options → List ServiceDay → Linked → FeedFault → Type 0
IsLinkedFault options days linked fault =
    IsTimeFault linked fault
    ⊎ ((calls : List (List Call)) × AreCalls linked calls × IsTooMany options linked (feed_runs days linked calls) fault)

-- the first fault of tables: one of their references, or else one of what they link
abbrev pub IsTablesFault : Options → Tables → FeedFault → Type 0
IsTablesFault options tables fault =
    (linked_of tables options.zone_name options.profile.scale ≡ Err fault)
    ⊎ ((linked : Linked) × (linked_of tables options.zone_name options.profile.scale ≡ Ok linked) × IsLinkedFault options (days_of tables options) linked fault)

-- the feed that the tables spell
abbrev pub IsFeedOf : Options → Tables → Loaded → Type 0
IsFeedOf options tables loaded =
    (linked : Linked) × (linked_of tables options.zone_name options.profile.scale ≡ Ok linked) × IsLoaded options (days_of tables options) linked loaded

-- what a folder's files spell: the feed of their tables, or their first fault, or else that of their tables
abbrev pub Loads : Options → Result Tables FeedFault → Result Loaded FeedFault → Type 0
Loads options tables (Ok loaded) = (read : Tables) × (tables ≡ Ok read) × IsFeedOf options read loaded
Loads options tables (Err fault) = IfTold (λ told. (tables ≡ Err told) ⊎ ((read : Tables) × (tables ≡ Ok read) × IsTablesFault options read told)) fault
