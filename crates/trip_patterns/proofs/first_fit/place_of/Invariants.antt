use Rattle.trip_patterns.specs.Putting.{FitsNone}
use Rattle.trip_patterns.proofs.first_fit.place_of.Given as goal

abbrev pub invariant-loop-place : goal.invariant-loop-place
invariant-loop-place l = FitsNone l.run l.lanes l.place
