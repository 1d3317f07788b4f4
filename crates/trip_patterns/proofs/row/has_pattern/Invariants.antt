use Rattle.std.proofs.Common.{◌≡◌, take, map}
use Rattle.otp_model.specs.Patterns.{spot_of}
use Rattle.trip_patterns.proofs.row.has_pattern.Given as goal

abbrev pub invariant-loop-position : goal.invariant-loop-position
invariant-loop-position l = map spot_of (take l.position l.calls) ≡ take l.position l.pattern
