-- Least seconds and points to the destination, by the number of rides that are left.
use Rattle.std.specs.Prelude.{◌≡◌, ℕ, ◌+◌, ◌*◌, ◌≤◌, ◌<◌, max, pos, ◌+ℤ◌, ◌≤ℤ◌, List, Some, slice_get}
use Rattle.std.specs.List.{Contains}
use Rattle.otp_model.specs.declared.run_name.RunName.{RunName}
use Rattle.otp_model.specs.declared.timetable.Call.{Call}
use Rattle.otp_model.specs.declared.timetable.Run.{Run}
use Rattle.otp_model.specs.declared.timetable.Edge.{Edge}
use Rattle.otp_model.specs.declared.timetable.Edges.{Edges}
use Rattle.otp_model.specs.declared.journey.Request.{Request}
use Rattle.otp_model.specs.Beginnings.{hop_penalty, walk_penalty}
use Rattle.otp_model.specs.Plane.{IsReached}
use Rattle.otp_model.specs.Journeys.{IsRideOn}
use Rattle.otp_model.specs.Ranges.{IsTimely}
use Rattle.trip_patterns.specs.Lanes.{LaneOf}

-- Seconds to the destination with so many more rides, and points beyond 100 for each second: from having alighted at
-- a stop; from being ready at a stop for a ride, which is none of those; and from the departure of a block's run at a
-- position, riding on. Where the seconds are `far` or more, the destination isn't reached so.
pub record Bounds : Type 0 where
  pub far : ℕ
  pub alight : (stop more : ℕ) → ℕ
  pub alight_points : (stop more : ℕ) → ℕ
  pub ready : (stop more : ℕ) → ℕ
  pub ready_points : (stop more : ℕ) → ℕ
  pub place : (block position more : ℕ) → ℕ

-- at a stop of the egress they are no more than the egress
pub record IsEndBound (r : Request) (b : Bounds) (stop egress : ℕ) : Type 0 where
  pub within : b.alight stop 0 < b.far
  pub seconds : b.alight stop 0 ≤ egress
  pub points : b.alight_points stop 0 ≤ walk_penalty r egress

-- along an edge they are no more than the way, and what is left after it
pub record IsWalkBound (r : Request) (b : Bounds) (stop : ℕ) (edge : Edge) (more : ℕ) : Type 0 where
  pub within : b.alight stop (more + 1) < b.far
  pub seconds : b.alight stop (more + 1) ≤ max (edge.walk + r.slack) edge.minimum + b.ready edge.to more
  pub points : b.alight_points stop (more + 1) ≤ hop_penalty r edge.walk + b.ready_points edge.to more

-- along a ride they are no more than the ride, and what is left after it
pub record IsRideBound (b : Bounds) (block from : ℕ) (board alight : Call) (more : ℕ) : Type 0 where
  pub within : b.place block from more < b.far
  pub seconds : (board.departure +ℤ pos (b.place block from more)) ≤ℤ (alight.arrival +ℤ pos (b.alight alight.stop more))
  pub ready : b.ready board.stop more ≤ b.place block from more
  pub points : b.ready_points board.stop more ≤ b.alight_points alight.stop more

-- The law of bounds, over the timely runs of blocks. It doesn't ask that they be the greatest.
pub record AreBounds (blocks : List (List LaneOf)) (edges : Edges) (r : Request) (b : Bounds) : Type 0 where
  pub ends : (stop egress : ℕ) → IsReached edges r.to stop egress → IsEndBound r b stop egress
  pub walks : (stop : ℕ) (row : List Edge) (edge : Edge) (more : ℕ) → slice_get edges.from stop ≡ Some row → Contains row edge
      → more + 1 < r.rides → b.ready edge.to more < b.far → IsWalkBound r b stop edge more
  pub rides : (block : ℕ) (lanes : List LaneOf) (lane : LaneOf) (run : Run) (from to : ℕ) (name : RunName) (board alight : Call) (more : ℕ)
      → slice_get blocks block ≡ Some lanes → Contains lanes lane → Contains lane.runs run → IsTimely run
      → IsRideOn run from to name board alight → more + 1 < r.rides → b.alight alight.stop more < b.far → IsRideBound b block from board alight more

-- no fewer points than those of the boardings
pub record CoverBoardings (r : Request) (b : Bounds) : Type 0 where
  pub alight : (stop more : ℕ) → more < r.rides → more * r.board_points ≤ b.alight_points stop more
  pub ready : (stop more : ℕ) → more + 1 < r.rides → more * r.board_points ≤ b.ready_points stop more

-- nothing is known
abbrev pub zero_bounds : Bounds
zero_bounds = record {
  far = 1;
  alight = λ stop more. 0;
  alight_points = λ stop more. 0;
  ready = λ stop more. 0;
  ready_points = λ stop more. 0;
  place = λ block position more. 0;
}
