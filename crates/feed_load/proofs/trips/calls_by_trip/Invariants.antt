use Rattle.std.proofs.Common.{◌≡◌, length}
use Rattle.otp_base.specs.EachAt.{EachAt}
use Rattle.feed_load.specs.Trips.{IsTripOf}
use Rattle.feed_load.proofs.trips.calls_by_trip.Given as goal

abbrev pub invariant-loop-trip : goal.invariant-loop-trip
invariant-loop-trip l = record {
  count : length l.list.items ≡ l.trip;
  each : EachAt (IsTripOf l.times) l.list.items;
}
