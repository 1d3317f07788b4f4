use Rattle.std.proofs.Common.{◌≡◌, take}
use Rattle.trip_patterns.proofs.shape.are_same.Given as goal

abbrev pub invariant-loop-position : goal.invariant-loop-position
invariant-loop-position l = take l.position l.pattern ≡ take l.position l.other
