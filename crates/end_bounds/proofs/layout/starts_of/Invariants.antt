use Rattle.end_bounds.specs.Levels.{AreStarts}
use Rattle.end_bounds.proofs.layout.starts_of.Given as goal

abbrev pub invariant-loop-block : goal.invariant-loop-block
invariant-loop-block g l = AreStarts (g.T.Timetable.shape_at l.timetable) l.bases l.block l.starts.items
