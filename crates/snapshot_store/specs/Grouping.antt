-- Runs of one pattern and day as a block.
use Rattle.std.specs.Prelude.{List}
use Rattle.std.specs.List.Sorted.{IsPermutation}
use Rattle.otp_model.specs.declared.timetable.Run.{Run}
use Rattle.trip_patterns.specs.FirstFit.{rows_of}
use Rattle.trip_patterns.specs.Lanes.{LaneOf}
use Rattle.trip_patterns.specs.Timetables.{IsBlock}

-- the lanes are a block, and their rows are these runs, each once
pub record IsBlockOf (runs : List Run) (lanes : List LaneOf) : Type 0 where
  pub block : IsBlock lanes
  pub rows : IsPermutation runs (rows_of lanes)
