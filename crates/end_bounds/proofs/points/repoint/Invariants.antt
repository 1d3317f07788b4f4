use Rattle.end_bounds.specs.Points.{AreRepointed}
use Rattle.end_bounds.proofs.points.repoint.Given as goal

abbrev pub invariant-loop-n : goal.invariant-loop-n
invariant-loop-n g l = AreRepointed l.before l.now (g.T.Timetable.shapes l.timetable) l.n l.initial.ready.items l.ready.items
