-- Runs of one pattern and day, put into lanes.
use Rattle.std.specs.Prelude.{◌≡◌, ◌<◌, List, length}
use Rattle.std.specs.List.{All, flat_map}
use Rattle.std.specs.List.Sorted.{IsPermutation}
use Rattle.otp_model.specs.Patterns.{pattern_of}
use Rattle.otp_model.specs.declared.timetable.Run.{Run}
use Rattle.trip_patterns.specs.Lanes.{IsLane, LaneOf, empty_lane}

-- the run is of the lane's day and pattern
pub record IsOfLane (lane : LaneOf) (run : Run) : Type 0 where
  pub day : run.name.day ≡ lane.day
  pub pattern : pattern_of run ≡ lane.pattern

-- the runs are of one pattern and day
abbrev pub AreOfOneBlock : List Run → Type 0
AreOfOneBlock runs = All (λ (first : Run). All (IsOfLane (empty_lane first)) runs) runs

abbrev pub rows_of : List LaneOf → List Run
rows_of lanes = flat_map (λ (lane : LaneOf). lane.runs) lanes

-- lanes that stand for exactly the runs, each run in one lane: none is empty, all are of the runs' day and pattern, and in
-- none does a later row stand before an earlier one
pub record AreLanesOf (runs : List Run) (lanes : List LaneOf) : Type 0 where
  pub rows : IsPermutation runs (rows_of lanes)
  pub filled : All (λ (lane : LaneOf). 0 < length lane.runs) lanes
  pub block : All (λ (lane : LaneOf). All (IsOfLane lane) runs) lanes
  pub each : All IsLane lanes
