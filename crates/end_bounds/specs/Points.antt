-- The least points to the destination beyond 100 for each second: those of walks and boardings.
use Rattle.std.specs.Prelude.{◌≡◌, ℕ, ◌+◌, ◌*◌, ◌≤◌, ◌<◌, max, min, List, Some, IsTrue, length}
use Rattle.std.specs.List.{Contains, slice_get}
use Rattle.otp_model.specs.Patterns.{Spot}
use Rattle.otp_model.specs.declared.timetable.Edge.{Edge}
use Rattle.trip_patterns.specs.Shapes.{ShapeOf}
use Rattle.end_bounds.specs.Scans.{IsLowered, far, number_at}

-- no more than at each position from one on where runs may be left
pub record IsBelowExits (now : List ℕ) (shape : ShapeOf) (position points : ℕ) : Type 0 where
  pub each : (exit : ℕ) (spot : Spot) → position ≤ exit → slice_get shape.pattern exit ≡ Some spot → IsTrue spot.alight → points ≤ number_at now spot.stop

-- Riding costs nothing: who is ready to board at a position from one on has no more than at each later exit.
pub record IsPointedFrom (now : List ℕ) (shape : ShapeOf) (low : ℕ) (ready : List ℕ) : Type 0 where
  pub each : (position exit : ℕ) (board alight : Spot) → low ≤ position → position < exit → slice_get shape.pattern position ≡ Some board
      → slice_get shape.pattern exit ≡ Some alight → IsTrue board.board → IsTrue alight.alight → number_at ready board.stop ≤ number_at now alight.stop

-- what was done when the positions of a shape from one on were gone through
pub record IsPointing (now : List ℕ) (shape : ShapeOf) (position best : ℕ) (old_ready ready : List ℕ) : Type 0 where
  pub within : position ≤ length shape.pattern
  pub size : length ready ≡ length old_ready
  pub lowered : IsLowered old_ready ready
  pub exits : IsBelowExits now shape position best
  pub pointed : IsPointedFrom now shape position ready

pub record ArePointed (now : List ℕ) (shapes : List ShapeOf) (ready : List ℕ) : Type 0 where
  pub each : (n : ℕ) (shape : ShapeOf) → slice_get shapes n ≡ Some shape → IsPointedFrom now shape 0 ready

-- what was done when so many shapes were gone through
pub record AreRepointed (before now : List ℕ) (shapes : List ShapeOf) (count : ℕ) (old_ready ready : List ℕ) : Type 0 where
  pub size : length ready ≡ length old_ready
  pub lowered : IsLowered old_ready ready
  pub pointed : (n : ℕ) (shape : ShapeOf) → n < count → slice_get shapes n ≡ Some shape → IsPointedFrom now shape 0 ready
  pub ahead : (n : ℕ) (shape : ShapeOf) → count ≤ n → slice_get shapes n ≡ Some shape → IsPointedFrom before shape 0 ready

-- points along an edge: those of the walk and of the boarding after it, and those from being ready on
abbrev pub IsEdgePoints : (walk_points board_points : ℕ) → List ℕ → ℕ → Edge → Type 0
IsEdgePoints walk_points board_points ready points edge = points ≤ (walk_points * edge.walk + board_points) + number_at ready edge.to

-- along each edge of each of the first so many stops
pub record AreEdgePoints (from : List (List Edge)) (walk_points board_points count : ℕ) (ready next : List ℕ) : Type 0 where
  pub each : (stop : ℕ) (row : List Edge) (edge : Edge) → stop < count → slice_get from stop ≡ Some row → Contains row edge
      → IsEdgePoints walk_points board_points ready (number_at next stop) edge

-- The column has these points, or those of as many boardings where they are more.
pub record IsPointColumn (columns board_points : ℕ) (table : List ℕ) (column : ℕ) (points : List ℕ) : Type 0 where
  pub each : (row : ℕ) → number_at table (row * columns + column) ≡ max (number_at points row) (min (column * board_points) far)

-- the greater of each number and a floor
pub record AreRaised (floor : ℕ) (numbers raised : List ℕ) : Type 0 where
  pub size : length raised ≡ length numbers
  pub each : (n : ℕ) → number_at raised n ≡ max (number_at numbers n) floor

-- What the tables say for so many rides more and for one more than these, in columns of their own.
pub record IsPointLevel (from : List (List Edge)) (walk_points board_points stops : ℕ) (shapes : List ShapeOf) (rides more : ℕ) (alight ready : List ℕ) (level : ℕ) : Type 0 where
  pub now : List ℕ
  pub next : List ℕ
  pub readies : List ℕ
  pub now_is : IsPointColumn rides board_points alight level now
  pub next_is : IsPointColumn rides board_points alight (level + 1) next
  pub readies_are : IsPointColumn more board_points ready level readies
  pub pointed : ArePointed now shapes readies
  pub edges : AreEdgePoints from walk_points board_points stops readies next

-- so many levels, the first of which begins with these points
pub record ArePointLevels (from : List (List Edge)) (walk_points board_points stops : ℕ) (shapes : List ShapeOf) (rides more : ℕ) (first : List ℕ) (count : ℕ) (alight ready : List ℕ) : Type 0 where
  pub begins : IsPointColumn rides board_points alight 0 first
  pub each : (level : ℕ) → level < count → IsPointLevel from walk_points board_points stops shapes rides more alight ready level

-- Tables of so many levels, and what the next one begins with.
pub record ArePointsMade (from : List (List Edge)) (walk_points board_points stops : ℕ) (shapes : List ShapeOf) (rides more : ℕ) (first : List ℕ) (count : ℕ)
    (alight ready before now readies : List ℕ) : Type 0 where
  pub alight_size : length alight ≡ stops * rides
  pub ready_size : length ready ≡ stops * more
  pub now_size : length now ≡ stops
  pub readies_size : length readies ≡ stops
  pub pointed : ArePointed before shapes readies
  pub now_is : IsPointColumn rides board_points alight count now
  pub levels : ArePointLevels from walk_points board_points stops shapes rides more first count alight ready
