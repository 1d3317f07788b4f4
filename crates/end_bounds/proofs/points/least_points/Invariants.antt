use Rattle.std.proofs.Common.{length}
use Rattle.end_bounds.specs.Points.{ArePointsMade}
use Rattle.end_bounds.proofs.points.least_points.Given as goal

abbrev pub invariant-loop-level : goal.invariant-loop-level
invariant-loop-level g l =
    ArePointsMade l.edges.from l.rates.walk l.rates.board (length l.fn.first.items) (g.T.Timetable.shapes l.timetable) l.rides l.more l.fn.first.items l.level
    l.alight.items l.ready.items l.before.items l.now.items l.readies.items
