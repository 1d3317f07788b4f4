-- Levels of bounds: what one number of rides more says of all shapes and edges.
use Rattle.std.specs.Prelude.{◌≡◌, ℕ, ◌+◌, ◌-◌, ◌≤◌, ◌<◌, max, List, Some, length, slice_index}
use Rattle.std.specs.List.{Contains, slice_get}
use Rattle.otp_model.specs.declared.timetable.Edge.{Edge}
use Rattle.trip_patterns.specs.Shapes.{ShapeOf}
use Rattle.end_bounds.specs.Scans.{AreStopsBelow, IsLowered, IsScannedFrom, far, number_at}
use Rattle.end_bounds.specs.Tables.{IsColumn}

-- The places of the first so many shapes stand one shape after another, from a place on each.
pub record AreLaid (shapes : List ShapeOf) (count : ℕ) (bases : List ℕ) (places : ℕ) : Type 0 where
  pub count_is : length bases ≡ count
  pub within : (n : ℕ) (shape : ShapeOf) → n < count → slice_get shapes n ≡ Some shape → slice_index bases n + length shape.pattern ≤ places
  pub rising : (m n : ℕ) (shape : ShapeOf) → m < n → n < count → slice_get shapes m ≡ Some shape → slice_index bases m + length shape.pattern ≤ slice_index bases n

-- where the places of each of so many blocks stand: where those of its shape do
pub record AreStarts (shape_at : ℕ → ℕ) (bases : List ℕ) (count : ℕ) (starts : List ℕ) : Type 0 where
  pub count_is : length starts ≡ count
  pub each : (block : ℕ) → block < count → slice_get starts block ≡ Some (slice_index bases (shape_at block))

-- each stop of each shape is one of so many
pub record AreAllStopsBelow (count : ℕ) (shapes : List ShapeOf) : Type 0 where
  pub each : (n : ℕ) (shape : ShapeOf) → slice_get shapes n ≡ Some shape → AreStopsBelow count shape

-- the first so many shapes have their bounds
pub record AreScanned (now : List ℕ) (shapes : List ShapeOf) (bases : List ℕ) (count : ℕ) (ready place : List ℕ) : Type 0 where
  pub each : (n : ℕ) (shape : ShapeOf) → n < count → slice_get shapes n ≡ Some shape → IsScannedFrom now shape (slice_index bases n) 0 ready place

-- what was done when so many shapes were gone through: the places of the others are what they were
pub record AreRenewed (now : List ℕ) (shapes : List ShapeOf) (bases : List ℕ) (count : ℕ) (old_ready ready old_place place : List ℕ) : Type 0 where
  pub size : length place ≡ length old_place
  pub ready_size : length ready ≡ length old_ready
  pub lowered : IsLowered old_ready ready
  pub scanned : AreScanned now shapes bases count ready place
  pub ahead : (n k : ℕ) → count ≤ n → n < length shapes → slice_index bases n ≤ k → number_at place k ≡ number_at old_place k

-- a bound along an edge is no more than the way, and what is left from being ready after it
pub record IsEdgeBound (slack : ℕ) (ready : List ℕ) (bound : ℕ) (edge : Edge) : Type 0 where
  pub within : number_at ready edge.to < far → bound < far
  pub seconds : bound ≤ max (edge.walk + slack) edge.minimum + number_at ready edge.to

-- along each edge of each of the first so many stops
pub record AreEdgeBounds (from : List (List Edge)) (slack count : ℕ) (ready next : List ℕ) : Type 0 where
  pub each : (stop : ℕ) (row : List Edge) (edge : Edge) → stop < count → slice_get from stop ≡ Some row → Contains row edge
      → IsEdgeBound slack ready (number_at next stop) edge

-- What the tables say for so many rides more and for one more than these, in columns of their own.
pub record IsLevel (from : List (List Edge)) (slack stops : ℕ) (shapes : List ShapeOf) (bases : List ℕ) (rides : ℕ) (alight ready place : List ℕ) (more : ℕ) : Type 0 where
  pub now : List ℕ
  pub next : List ℕ
  pub readies : List ℕ
  pub places : List ℕ
  pub now_is : IsColumn rides alight more now
  pub next_is : IsColumn rides alight (more + 1) next
  pub readies_are : IsColumn (rides - 1) ready more readies
  pub places_are : IsColumn (rides - 1) place more places
  pub scanned : AreScanned now shapes bases (length shapes) readies places
  pub edges : AreEdgeBounds from slack stops readies next

-- so many levels, the first of which begins with these seconds
pub record AreLevels (from : List (List Edge)) (slack stops : ℕ) (shapes : List ShapeOf) (bases : List ℕ) (rides : ℕ) (first : List ℕ) (count : ℕ) (alight ready place : List ℕ) : Type 0 where
  pub begins : IsColumn rides alight 0 first
  pub each : (more : ℕ) → more < count → IsLevel from slack stops shapes bases rides alight ready place more
