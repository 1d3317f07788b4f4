use Rattle.std.proofs.Common.{◌<◌, subst, sym, arith}
use Rattle.feed_load.proofs.ChainLemmas.{noted, of_none}
use Rattle.feed_load.proofs.by_trip.TripIndex.of.Goals as goal

pub loop-row-init : goal.loop-row-init
loop-row-init g c = of_none g.R.TripRow.trip_of c.args.trips c.args.rows.now c.in_ok-index.index c.in_ok-index.ensures.trips c.in_ok-index.ensures.last c.in_ok-index.ensures.before

pub note-requires-clause-within : goal.note-requires-clause-within
note-requires-clause-within g c =
    let inside = subst (λ (row : g.row.R.Denot). g.R.TripRow.trip_of row < c.args.trips) (sym c.row-item.is) (c.requires.within c.loop-row.row-index c.row-item.result c.loop-row-test.true) in
    let are = c.loop-row.invariant.trips_are in
    rw c.trip.ensures (omega (arith, inside, are))

pub loop-row-preserved : goal.loop-row-preserved
loop-row-preserved g c =
    let inside = subst (λ (row : g.row.R.Denot). g.R.TripRow.trip_of row < c.args.trips) (sym c.row-item.is) (c.requires.within c.loop-row.row-index c.row-item.result c.loop-row-test.true) in
    noted g.R.TripRow.trip_of c.args.trips c.args.rows.now c.loop-row.row-index c.row-item.result c.loop-row.index c.note.new.self c.loop-row-test.true c.row-item.is inside c.loop-row.invariant
    (rw c.trip.ensures at c.in_ok-note.ensures.before) (rw c.trip.ensures at c.in_ok-note.ensures.last)
