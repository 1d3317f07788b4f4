use Rattle.end_bounds.specs.Scans.{IsScanning}
use Rattle.end_bounds.proofs.scan.scan_shape.Given as goal

abbrev pub invariant-loop-position : goal.invariant-loop-position
invariant-loop-position l = IsScanning l.now l.shape l.base l.position l.best l.initial.ready.items l.ready.items l.initial.place.items l.place.items

abbrev pub decreases-loop-position : goal.decreases-loop-position
decreases-loop-position l = l.position
