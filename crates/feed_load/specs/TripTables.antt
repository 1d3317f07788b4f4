-- The trips of a feed, with what their runs are made of.
use Rattle.std.specs.Prelude.{◌≡◌, ◌^◌, ◌<◌, ℕ, length}
use Rattle.std.specs.List.{All}
use Rattle.feed_load.specs.ByTrip.{IsIndexTo}
use Rattle.feed_load.specs.Runs.{HasClock}
use Rattle.feed_load.specs.Starts.{IsHeadway, trip_of_headway}
use Rattle.feed_load.specs.declared.trip_table.TripTable.{TripTable}

-- each trip with its calls, whose times are clocks, and the headways, which end by a time, by trip
pub record IsTripTable (times : ℕ) (table : TripTable) : Type 0 where
  pub few : length table.trips.now < 2 ^ 32
  pub same : length table.calls.now ≡ length table.trips.now
  pub clocks : All (All HasClock) table.calls.now
  pub headways : All (IsHeadway times) table.headways.now
  pub index : IsIndexTo trip_of_headway (length table.trips.now) table.headways.now (length table.headways.now) table.index
