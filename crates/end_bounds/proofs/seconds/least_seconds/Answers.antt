use Rattle.std.proofs.Common.{length, refl}
use Rattle.end_bounds.proofs.MakingLemmas.{made_more, made_none}
use Rattle.end_bounds.proofs.seconds.least_seconds.Goals as goal

pub loop-more-init : goal.loop-more-init
loop-more-init g c =
    made_none c.args.edges.now.from c.args.slack (length c.args.first.items) c.args.layout.now.places (g.T.Timetable.shapes c.args.timetable.now) c.args.layout.now.bases.items c.args.rides c.args.first.items
    c.in_ok-alight.alight.items c.write_column.new.table.items c.in_ok-ready.ready.items c.in_ok-place.place.items c.in_ok-before.before.items c.in_ok-readies.readies.items c.in_ok-places.places.items
    (rw (c.len-stops.ensures, c.args.first.ok.0) at c.in_ok-alight.ensures.size) c.write_column.ensures.size (rw (c.len-stops.ensures, c.args.first.ok.0) at c.in_ok-ready.ensures.size) c.in_ok-place.ensures.size refl
    (rw (c.len-stops.ensures, c.args.first.ok.0) at c.in_ok-readies.ensures.size) c.in_ok-places.ensures.size c.in_ok-before.ensures.blank c.in_ok-readies.ensures.blank c.in_ok-places.ensures.blank
    (rw c.deref.ensures.value at c.write_column.ensures.written)

pub loop-more-preserved : goal.loop-more-preserved
loop-more-preserved g c =
    made_more c.args.edges.now.from c.args.slack (length c.args.first.items) c.args.layout.now.places (g.T.Timetable.shapes c.args.timetable.now) c.args.layout.now.bases.items c.args.rides c.args.first.items
    c.loop-more.more c.loop-more.alight.items c.write_column-in-loop-more-3.new.table.items c.loop-more.ready.items c.write_column-in-loop-more.new.table.items c.loop-more.place.items c.write_column-in-loop-more-2.new.table.items
    c.loop-more.before.items c.loop-more.now.items c.in_ok-next.next.items c.loop-more.readies.items c.rescan.new.ready.items c.loop-more.places.items c.rescan.new.place.items c.loop-more-test.true
    (rw (c.deref-in-loop-more.ensures.value, c.deref-in-loop-more-3.ensures.value) at c.rescan.ensures)
    (rw c.deref-in-loop-more-5.ensures.value at c.in_ok-next.ensures.size)
    (rw (c.as_slice.ensures, c.deref-in-loop-more-4.ensures.value, c.deref-in-loop-more-5.ensures.value) at c.in_ok-next.ensures.edges)
    c.write_column-in-loop-more.ensures.size (rw c.deref-in-loop-more-6.ensures.value at c.write_column-in-loop-more.ensures.written) c.write_column-in-loop-more.ensures.kept
    c.write_column-in-loop-more-2.ensures.size (rw c.deref-in-loop-more-7.ensures.value at c.write_column-in-loop-more-2.ensures.written) c.write_column-in-loop-more-2.ensures.kept
    c.write_column-in-loop-more-3.ensures.size (rw c.deref-in-loop-more-8.ensures.value at c.write_column-in-loop-more-3.ensures.written) c.write_column-in-loop-more-3.ensures.kept
    c.loop-more.invariant
