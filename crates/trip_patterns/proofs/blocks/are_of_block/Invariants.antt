use Rattle.std.proofs.Common.{take}
use Rattle.std.specs.List.{All}
use Rattle.trip_patterns.specs.FirstFit.{IsOfLane}
use Rattle.trip_patterns.specs.Lanes.{empty_lane}
use Rattle.trip_patterns.proofs.blocks.are_of_block.Given as goal

abbrev pub invariant-loop-run : goal.invariant-loop-run
invariant-loop-run l = All (IsOfLane (empty_lane l.first)) (take l.run-index l.runs)
