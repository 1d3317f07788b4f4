use Rattle.gtfs_links.specs.Index.{stop_of_time, trip_of_time}
use Rattle.gtfs_links.proofs.JudgeFacts.{call_repeats, number_told, row_is}
use Rattle.gtfs_links.proofs.KeyFacts.{number_is}
use Rattle.gtfs_links.proofs.check.stop_times.TimeRuleRule.judge.Goals as goal

pub is_unknown_at-unknown_stop-requires : goal.is_unknown_at-unknown_stop-requires
is_unknown_at-unknown_stop-requires c =
    let it = c.args.self.now in
    number_is it.indexes.now.stops stop_of_time it.stops.now c.args.rows.now c.args.place c.index-rows-place.result c.requires.rows.stops_are c.requires.place c.index-rows-place.is

pub returns : goal.returns
returns c = λ fine row at.
    let it = c.args.self.now in
    let rows = c.args.rows.now in
    let repeats = call_repeats it.indexes.now it.trips.now it.stops.now it.first_repeat rows c.requires.rows c.args.place row c.requires.place at fine in
    let known = number_told it.indexes.now.trips trip_of_time it.trips.now rows c.args.place row c.requires.rows.trips_are c.requires.place at in
    rw (c.has_number-has_trip.ensures, c.is_unknown_at-unknown_stop.ensures, row_is rows c.args.place c.index-rows-place.result row c.index-rows-place.is at, repeats, known) at c.wrong_call.ensures
