-- Timetables: lanes in blocks, one block for each pattern and day, and for each stop its places in them.
use Rattle.std.specs.Prelude.{◌≡◌, ◌≢◌, ℕ, List, Some}
use Rattle.std.specs.List.{All, AllPairs, Contains, flat_map, slice_get}
use Rattle.std.specs.List.Sorted.{IsPermutation}
use Rattle.otp_model.specs.Patterns.{Spot}
use Rattle.otp_model.specs.declared.timetable.Run.{Run}
use Rattle.trip_patterns.specs.declared.timetable.BlockStop.{BlockStop}
use Rattle.trip_patterns.specs.Lanes.{IsLane, LaneOf}
use Rattle.trip_patterns.specs.FirstFit.{rows_of}

-- the lanes are of one pattern and day
pub record IsSameBlock (a b : LaneOf) : Type 0 where
  pub day : a.day ≡ b.day
  pub pattern : a.pattern ≡ b.pattern

-- lanes of one pattern and day
pub record IsBlock (lanes : List LaneOf) : Type 0 where
  pub lanes_are : All IsLane lanes
  pub same : AllPairs IsSameBlock lanes

-- the rows of all lanes are the runs of the schedule, each once
pub record StandsFor (blocks : List (List LaneOf)) (runs : List Run) : Type 0 where
  pub blocks_are : All IsBlock blocks
  pub rows : IsPermutation runs (flat_map rows_of blocks)

-- the stop stands at this position of the pattern of this block's lanes
pub record IsPlaceOf (blocks : List (List LaneOf)) (stop : ℕ) (place : BlockStop) : Type 0 where
  pub lanes : List LaneOf
  pub lanes_are : slice_get blocks place.block ≡ Some lanes
  pub lane : LaneOf
  pub lane_is : Contains lanes lane
  pub spot : Spot
  pub spot_is : slice_get lane.pattern place.position ≡ Some spot
  pub stop_is : spot.stop ≡ stop

-- each place of the stop in each block, once
pub record ArePlacesOf (blocks : List (List LaneOf)) (stop : ℕ) (places : List BlockStop) : Type 0 where
  pub only : All (IsPlaceOf blocks stop) places
  pub whole : (place : BlockStop) → IsPlaceOf blocks stop place → Contains places place
  pub once : AllPairs (λ (a b : BlockStop). a ≢ b) places
