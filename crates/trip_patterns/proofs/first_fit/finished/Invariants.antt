use Rattle.std.proofs.Common.{◌≡◌}
use Rattle.std.specs.List.{All}
use Rattle.trip_patterns.specs.Lanes.{IsLane}
use Rattle.trip_patterns.proofs.first_fit.finished.Given as goal

abbrev pub invariant-loop-builder : goal.invariant-loop-builder
invariant-loop-builder l = record {
  same : l.lanes.items ≡ l.yielded;
  each : All IsLane l.lanes.items;
}
