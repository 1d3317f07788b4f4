use Rattle.std.proofs.Common.{length}
use Rattle.end_bounds.specs.Making.{AreMade}
use Rattle.end_bounds.proofs.seconds.least_seconds.Given as goal

abbrev pub invariant-loop-more : goal.invariant-loop-more
invariant-loop-more g l =
    AreMade l.edges.from l.slack (length l.fn.first.items) l.layout.places (g.T.Timetable.shapes l.timetable) l.layout.bases.items l.rides l.fn.first.items l.more
    l.alight.items l.ready.items l.place.items l.before.items l.now.items l.readies.items l.places.items
