use Rattle.end_bounds.specs.Levels.{AreRenewed}
use Rattle.end_bounds.proofs.level.rescan.Given as goal

abbrev pub invariant-loop-n : goal.invariant-loop-n
invariant-loop-n g l = AreRenewed l.now (g.T.Timetable.shapes l.timetable) l.bases l.n l.initial.ready.items l.ready.items l.initial.place.items l.place.items
