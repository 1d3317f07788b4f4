use Rattle.std.proofs.Common.{◌∙◌, ap, arith, length, sym}
use Rattle.gtfs_links.specs.Kept.{number_in}
use Rattle.gtfs_links.specs.Linked.{headway_at, is_headway_of, kept_ids}
use Rattle.gtfs_links.proofs.KeptFacts.{left_out_more, number_found, number_missing, passed_all, passed_more, read_row}
use Rattle.gtfs_links.proofs.linking.headways.linked_headways.Goals as goal
use Rattle.gtfs_links.proofs.linking.headways.linked_headways.Goals.{in-Some+in_ok-push, in_default}

pub new_number-requires : goal.new_number-requires
new_number-requires c =
    let tables = c.args.tables.now in
    let row = c.row-item.result in
    let read = read_row tables.frequencies c.as_slice-row-items.result.now c.loop-place.place row c.as_slice-row-items.ensures (omega arith) c.row-item.is in
    rw c.as_slice-trips.ensures (number_in (kept_ids tables) row.trip_id, c.requires c.loop-place.place row read.2)

pub loop-place-preserved : goal.loop-place-preserved
loop-place-preserved c =
    let tables = c.args.tables.now in
    let kept = kept_ids tables in
    let rows = tables.frequencies in
    let i = c.loop-place.place in
    let row = c.row-item.result in
    let read = read_row rows c.as_slice-row-items.result.now i row c.as_slice-row-items.ensures (omega arith) c.row-item.is in
    let trip = c.new_number.ensures (number_in kept row.trip_id) (rw c.as_slice-trips.ensures (c.requires i row read.2)) in
    elim c.match-new_number.branch [
      | in-Some+in_ok-push w ↦
          let found = number_found kept row.trip_id w.in-Some.trip (sym w.in-Some.is ∙ trip) in
          rw w.headways-is (passed_more (headway_at kept) (is_headway_of kept) rows i row c.loop-place.headways w.push.new.self _ read.0 read.1 found.0 (rw found.1 at w.in_ok-push.ensures.ok) c.loop-place.invariant)
      | in_default w ↦
          rw w.headways-is (left_out_more (headway_at kept) (is_headway_of kept) rows i row c.loop-place.headways _ read.0 read.1 (number_missing kept row.trip_id (sym w.in_default.is ∙ trip)) c.loop-place.invariant)
    ]

pub returns : goal.returns
returns c =
    let kept = kept_ids c.args.tables.now in
    passed_all (headway_at kept) (is_headway_of kept) c.args.tables.now.frequencies c.loop-place.place c.loop-place.headways _ (omega (arith, ap length c.as_slice-row-items.ensures)) c.loop-place.invariant
