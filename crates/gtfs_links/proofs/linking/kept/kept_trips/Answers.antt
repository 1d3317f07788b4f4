use Rattle.std.proofs.Common.{◌∙◌, arith, sym}
use Rattle.std.proofs.lemmas.Bool.{le-leb, lt-leb}
use Rattle.gtfs_links.specs.Linked.{trip_at}
use Rattle.gtfs_links.proofs.KeptFacts.{left_out_more, passed_all, passed_more, same_at}
use Rattle.gtfs_links.proofs.linking.kept.kept_trips.Goals as goal
use Rattle.gtfs_links.proofs.linking.kept.kept_trips.Goals.{then-counts-place-ge-LEAST_CALLS+in_ok-kept_trip+in_ok-push, else-counts-place-ge-LEAST_CALLS}

pub loop-place-preserved : goal.loop-place-preserved
loop-place-preserved c = λ is_kept same.
    let ix = c.args.indexes.now in
    let rows = c.args.rows.now in
    let i = c.loop-place.place in
    let row = c.index-rows-place.result in
    let f = trip_at ix.routes ix.services in
    let kept = same_at c.args.counts.now rows is_kept i row c.requires.counts same (omega arith) c.index-rows-place.is in
    elim c.if-counts-place-ge-LEAST_CALLS.branch [
      | then-counts-place-ge-LEAST_CALLS+in_ok-kept_trip+in_ok-push w ↦
          rw w.trips-is (passed_more f is_kept rows i row c.loop-place.trips w.push.new.self _ (omega arith) c.index-rows-place.is (sym kept ∙ le-leb 2 _ w.if-counts-place-ge-LEAST_CALLS.true)
          (rw w.in_ok-kept_trip.ensures at w.in_ok-push.ensures.ok) (c.loop-place.invariant is_kept same))
      | else-counts-place-ge-LEAST_CALLS w ↦
          rw w.trips-is (left_out_more f is_kept rows i row c.loop-place.trips _ (omega arith) c.index-rows-place.is (sym kept ∙ lt-leb 2 _ w.if-counts-place-ge-LEAST_CALLS.false) (c.loop-place.invariant is_kept same))
    ]

pub returns : goal.returns
returns c = λ is_kept same. passed_all (trip_at c.args.indexes.now.routes c.args.indexes.now.services) is_kept c.args.rows.now c.loop-place.place c.loop-place.trips _ (omega arith) (c.loop-place.invariant is_kept same)
