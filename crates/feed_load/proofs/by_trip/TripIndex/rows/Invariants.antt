use Rattle.std.proofs.Common.{◌≡◌, ◌++◌, List, reverse}
use Rattle.feed_load.specs.ByTrip.{IsChain, rows_by}
use Rattle.feed_load.proofs.by_trip.TripIndex.rows.Given as goal

abbrev pub invariant-loop-from : goal.invariant-loop-from
invariant-loop-from g l = record {
  rest : List g.row.R.Denot;
  chain : IsChain l.rows l.self.before.items l.from rest;
  all : l.own.items ++ rest ≡ reverse (rows_by g.R.TripRow.trip_of l.rows l.trip);
}

abbrev pub decreases-loop-from : goal.decreases-loop-from
decreases-loop-from g l = l.from
