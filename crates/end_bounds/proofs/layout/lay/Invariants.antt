use Rattle.end_bounds.specs.Levels.{AreLaid}
use Rattle.end_bounds.proofs.layout.lay.Given as goal

abbrev pub invariant-loop-n : goal.invariant-loop-n
invariant-loop-n g l = AreLaid (g.T.Timetable.shapes l.timetable) l.n l.bases.items l.places
