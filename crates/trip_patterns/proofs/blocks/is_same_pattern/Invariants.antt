use Rattle.std.proofs.Common.{◌≡◌, take, map}
use Rattle.otp_model.specs.Patterns.{spot_of}
use Rattle.trip_patterns.proofs.blocks.is_same_pattern.Given as goal

abbrev pub invariant-loop-position : goal.invariant-loop-position
invariant-loop-position l = map spot_of (take l.position l.others) ≡ map spot_of (take l.position l.calls)
