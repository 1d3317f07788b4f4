use Rattle.std.proofs.Common.{take}
use Rattle.std.specs.List.{All}
use Rattle.trip_patterns.specs.FirstFit.{IsOfLane}
use Rattle.trip_patterns.specs.Lanes.{empty_lane}
use Rattle.snapshot_store.proofs.grouping.block_length.Given as goal

abbrev pub invariant-loop-count : goal.invariant-loop-count
invariant-loop-count l = All (IsOfLane (empty_lane l.first)) (take l.count l.runs)
