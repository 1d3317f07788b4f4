use Rattle.std.proofs.Common.{◌≡◌, take, map}
use Rattle.otp_model.specs.Patterns.{spot_of}
use Rattle.trip_patterns.proofs.builder.pattern_of.Given as goal

abbrev pub invariant-loop-call : goal.invariant-loop-call
invariant-loop-call l = l.pattern ≡ map spot_of (take l.call-index l.calls)
