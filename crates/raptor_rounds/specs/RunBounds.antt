-- What bounds say of the rides of a lane, and of a schedule whatever its blocks.
use Rattle.std.specs.Prelude.{◌≡◌, ℕ, ◌+◌, ◌<◌, List, Some, slice_get}
use Rattle.std.specs.List.{Contains}
use Rattle.otp_model.specs.declared.run_name.RunName.{RunName}
use Rattle.otp_model.specs.declared.timetable.Call.{Call}
use Rattle.otp_model.specs.declared.timetable.Run.{Run}
use Rattle.otp_model.specs.declared.timetable.Edge.{Edge}
use Rattle.otp_model.specs.declared.timetable.Edges.{Edges}
use Rattle.otp_model.specs.declared.journey.Request.{Request}
use Rattle.otp_model.specs.Plane.{IsReached}
use Rattle.otp_model.specs.Journeys.{IsRideOn}
use Rattle.otp_model.specs.Ranges.{IsTimely}
use Rattle.end_bounds.specs.Bounds.{Bounds, IsEndBound, IsRideBound, IsWalkBound}
use Rattle.trip_patterns.specs.Lanes.{LaneOf}

-- with as many rides more as may follow
abbrev pub IsBounded : Request → Bounds → (block from : ℕ) → (board alight : Call) → Type 0
IsBounded r b block from board alight = (more : ℕ) → more + 1 < r.rides → b.alight alight.stop more < b.far → IsRideBound b block from board alight more

-- on a lane of the block, and of all blocks
pub record IsLaneBound (r : Request) (b : Bounds) (block : ℕ) (lane : LaneOf) : Type 0 where
  pub each : (run : Run) (from to : ℕ) (name : RunName) (board alight : Call) → Contains lane.runs run → IsTimely run → IsRideOn run from to name board alight → IsBounded r b block from board alight

pub record AreRideBounds (blocks : List (List LaneOf)) (r : Request) (b : Bounds) : Type 0 where
  pub each : (block : ℕ) (lanes : List LaneOf) (lane : LaneOf) → slice_get blocks block ≡ Some lanes → Contains lanes lane → IsLaneBound r b block lane

-- of a ride in some block
pub record IsBoundedRide (r : Request) (b : Bounds) (from : ℕ) (board alight : Call) : Type 0 where
  pub block : ℕ
  pub bound : IsBounded r b block from board alight

-- the law of bounds, over the runs that the blocks stand for
pub record AreRunBounds (runs : List Run) (edges : Edges) (r : Request) (b : Bounds) : Type 0 where
  pub ends : (stop egress : ℕ) → IsReached edges r.to stop egress → IsEndBound r b stop egress
  pub walks : (stop : ℕ) (row : List Edge) (edge : Edge) (more : ℕ) → slice_get edges.from stop ≡ Some row → Contains row edge
      → more + 1 < r.rides → b.ready edge.to more < b.far → IsWalkBound r b stop edge more
  pub rides : (run : Run) (from to : ℕ) (name : RunName) (board alight : Call) → Contains runs run → IsRideOn run from to name board alight → IsBoundedRide r b from board alight
