use Rattle.std.proofs.Common.{◌+◌, ap, arith, length}
use Rattle.gtfs_links.specs.Index.{stop_of_time}
use Rattle.gtfs_links.specs.Kept.{number_in}
use Rattle.gtfs_links.specs.Linked.{kept_ids, stop_ids}
use Rattle.gtfs_links.proofs.KeptFacts.{read_row}
use Rattle.gtfs_links.proofs.KeyFacts.{number_is}
use Rattle.gtfs_links.proofs.TimeFacts.{time_is, times_done, times_more}
use Rattle.gtfs_links.proofs.linking.times.linked_times.Goals as goal

pub new_number-trip-requires : goal.new_number-trip-requires
new_number-trip-requires c =
    let tables = c.args.tables.now in
    let row = c.index-rows-place.result in
    let read = read_row tables.stop_times c.as_slice-rows.result.now c.loop-place.place row c.as_slice-rows.ensures (omega arith) c.index-rows-place.is in
    rw c.as_slice-trips.ensures (number_in (kept_ids tables) row.trip_id, c.requires.trips c.loop-place.place row read.2)

pub loop-place-preserved : goal.loop-place-preserved
loop-place-preserved c =
    let tables = c.args.tables.now in
    let ids = stop_ids tables in
    let kept = kept_ids tables in
    let rows = tables.stop_times in
    let i = c.loop-place.place in
    let row = c.index-rows-place.result in
    let read = read_row rows c.as_slice-rows.result.now i row c.as_slice-rows.ensures (omega arith) c.index-rows-place.is in
    let trip = c.new_number-trip.ensures (number_in kept row.trip_id) (rw c.as_slice-trips.ensures (c.requires.trips i row read.2)) in
    let stop = number_is ids stop_of_time c.args.numbers.now.stops rows i row c.requires.stops read.0 read.1 in
    let time = rw (c.as_slice.ensures, trip, c.as_slice-stops.ensures, stop, time_is tables.stops ids kept (i + 1) row) at c.linked_time-time.ensures in
    times_more tables.stops ids kept rows i row c.loop-place.times.items c.push_some.new.list.items _ read.0 read.1 (rw time at c.in_ok-push_some.ensures) c.loop-place.invariant

pub returns : goal.returns
returns c =
    let tables = c.args.tables.now in
    rw c.from_vec.ensures (times_done tables.stops (stop_ids tables) (kept_ids tables) tables.stop_times c.loop-place.place c.loop-place.times.items _ (omega (arith, ap length c.as_slice-rows.ensures)) c.loop-place.invariant)
