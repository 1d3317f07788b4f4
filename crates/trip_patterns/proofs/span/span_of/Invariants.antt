use Rattle.std.proofs.Common.{take}
use Rattle.trip_patterns.specs.Spans.{IsSpanOf}
use Rattle.trip_patterns.proofs.span.span_of.Given as goal

abbrev pub invariant-loop-lane : goal.invariant-loop-lane
invariant-loop-lane l = IsSpanOf (take l.lane-index l.lanes) l.span
