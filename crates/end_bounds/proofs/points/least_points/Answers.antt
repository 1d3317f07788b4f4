use Rattle.std.proofs.Common.{arith, length, refl}
use Rattle.end_bounds.proofs.PointLemmas.{points_more, points_none}
use Rattle.end_bounds.proofs.points.least_points.Goals as goal

pub loop-level-init : goal.loop-level-init
loop-level-init g c =
    points_none c.args.edges.now.from c.args.rates.now.walk c.args.rates.now.board (length c.args.first.items) (g.T.Timetable.shapes c.args.timetable.now) c.args.rides _ c.args.first.items
    c.in_ok-alight.alight.items c.write_points.new.table.items c.in_ok-ready.ready.items c.in_ok-before.before.items c.in_ok-readies.readies.items
    (rw (c.len-stops.ensures, c.args.first.ok.0) at c.in_ok-alight.ensures.size) c.in_ok-write_points.ensures.size (rw (c.len-stops.ensures, c.args.first.ok.0) at c.in_ok-ready.ensures.size) refl
    (rw (c.len-stops.ensures, c.args.first.ok.0) at c.in_ok-readies.ensures.size) c.in_ok-before.ensures.blank c.in_ok-readies.ensures.blank
    (rw c.deref.ensures.value at c.in_ok-write_points.ensures.written)

pub loop-level-preserved : goal.loop-level-preserved
loop-level-preserved g c =
    points_more c.args.edges.now.from c.args.rates.now.walk c.args.rates.now.board (length c.args.first.items) (g.T.Timetable.shapes c.args.timetable.now) c.args.rides _ c.args.first.items
    c.loop-level.level c.loop-level.alight.items c.write_points-in-loop-level-2.new.table.items c.loop-level.ready.items c.write_points-in-loop-level.new.table.items
    c.loop-level.before.items c.loop-level.now.items c.in_ok-next.next.items c.loop-level.readies.items c.repoint.new.ready.items c.loop-level-test.true (omega (arith, c.loop-level-test.true))
    (rw (c.deref-in-loop-level.ensures.value, c.deref-in-loop-level-2.ensures.value) at c.repoint.ensures)
    (rw c.deref-in-loop-level-4.ensures.value at c.in_ok-next.ensures.size)
    (rw (c.as_slice.ensures, c.deref-in-loop-level-3.ensures.value, c.deref-in-loop-level-4.ensures.value) at c.in_ok-next.ensures.edges)
    c.in_ok-write_points-2.ensures.size (rw c.deref-in-loop-level-5.ensures.value at c.in_ok-write_points-2.ensures.written) c.in_ok-write_points-2.ensures.kept
    c.in_ok-write_points-3.ensures.size (rw c.deref-in-loop-level-6.ensures.value at c.in_ok-write_points-3.ensures.written) c.in_ok-write_points-3.ensures.kept
    c.loop-level.invariant
