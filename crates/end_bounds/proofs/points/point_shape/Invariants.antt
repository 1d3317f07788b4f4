use Rattle.end_bounds.specs.Points.{IsPointing}
use Rattle.end_bounds.proofs.points.point_shape.Given as goal

abbrev pub invariant-loop-position : goal.invariant-loop-position
invariant-loop-position l = IsPointing l.now l.shape l.position l.best l.initial.ready.items l.ready.items

abbrev pub decreases-loop-position : goal.decreases-loop-position
decreases-loop-position l = l.position
