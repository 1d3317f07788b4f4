use Rattle.feed_load.specs.ByTrip.{IsIndexTo}
use Rattle.feed_load.proofs.by_trip.TripIndex.of.Given as goal

abbrev pub invariant-loop-row : goal.invariant-loop-row
invariant-loop-row g l = IsIndexTo g.R.TripRow.trip_of l.trips l.rows l.row-index l.index
