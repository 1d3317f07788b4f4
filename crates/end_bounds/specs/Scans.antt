-- What one level of bounds says along the positions of a shape.
use Rattle.std.specs.Prelude.{◌≡◌, ◌⊎◌, ℕ, ◌+◌, ◌≤◌, ◌<◌, ℤ, pos, ◌+ℤ◌, ◌≤ℤ◌, List, Some, IsTrue, length, slice_index_or}
use Rattle.std.specs.List.{slice_get}
use Rattle.otp_model.specs.Patterns.{Spot}
use Rattle.otp_model.specs.declared.timetable.Call.{Call}
use Rattle.otp_model.specs.declared.timetable.Run.{Run}
use Rattle.trip_patterns.specs.Shapes.{FitsShape, ShapeOf}

-- the number of what can't be reached: 2 ^ 32 - 1
abbrev pub far : ℕ
far = 4294967295

-- the number at a place of a table; nothing beyond it is reached
abbrev pub number_at : List ℕ → ℕ → ℕ
number_at table n = slice_index_or table n far

abbrev pub IsLowered : List ℕ → List ℕ → Type 0
IsLowered old new = (n : ℕ) → number_at new n ≤ number_at old n

-- where a run may be left, and the destination is reached from
pub record IsExit (now : List ℕ) (run : Run) (position : ℕ) (to : Call) : Type 0 where
  pub at : slice_get run.calls position ≡ Some to
  pub alights : IsTrue to.alight
  pub reached : number_at now to.stop < far

-- so many seconds from a time on end no later than those that are left at another
pub record IsNoLater (seconds : ℕ) (from to : ℤ) (left : ℕ) : Type 0 where
  pub within : seconds < far
  pub ends : (from +ℤ pos seconds) ≤ℤ (to +ℤ pos left)

-- a bound from the arrival at a position, whichever run of the shape it is and wherever it is left
pub record IsBoundFromArrival (now : List ℕ) (shape : ShapeOf) (position seconds : ℕ) : Type 0 where
  pub each : (run : Run) (exit : ℕ) (here to : Call) → FitsShape shape run → position ≤ exit → slice_get run.calls position ≡ Some here
      → IsExit now run exit to → IsNoLater seconds here.arrival to.arrival (number_at now to.stop)

-- a bound from the departure at a position, riding on
pub record IsBoundFromDeparture (now : List ℕ) (shape : ShapeOf) (position seconds : ℕ) : Type 0 where
  pub each : (run : Run) (exit : ℕ) (here to : Call) → FitsShape shape run → position < exit → slice_get run.calls position ≡ Some here
      → IsExit now run exit to → IsNoLater seconds here.departure to.arrival (number_at now to.stop)

-- who is ready at the spot's stop may board there
abbrev pub IsReadyFor : List ℕ → Spot → ℕ → Type 0
IsReadyFor ready spot bound = IsTrue spot.board → number_at ready spot.stop ≤ bound

-- The positions of a shape from one on have their bounds, which stand in a table from a place on.
pub record IsScannedFrom (now : List ℕ) (shape : ShapeOf) (base low : ℕ) (ready place : List ℕ) : Type 0 where
  pub onward : (position : ℕ) → low ≤ position → position < length shape.pattern → IsBoundFromDeparture now shape position (number_at place (base + position))
  pub boards : (position : ℕ) (spot : Spot) → low ≤ position → slice_get shape.pattern position ≡ Some spot → IsReadyFor ready spot (number_at place (base + position))

-- nothing but so many places was written
abbrev pub IsKeptOutside : (base count : ℕ) → List ℕ → List ℕ → Type 0
IsKeptOutside base count old new = (n : ℕ) → (n < base) ⊎ (base + count ≤ n) → number_at new n ≡ number_at old n

-- what was done when the positions of a shape from one on were gone through
pub record IsScanning (now : List ℕ) (shape : ShapeOf) (base position best : ℕ) (old_ready ready old_place place : List ℕ) : Type 0 where
  pub within : position ≤ length shape.pattern
  pub size : length place ≡ length old_place
  pub ready_size : length ready ≡ length old_ready
  pub lowered : IsLowered old_ready ready
  pub kept : IsKeptOutside base (length shape.pattern) old_place place
  pub left : IsBoundFromArrival now shape position best
  pub scanned : IsScannedFrom now shape base position ready place

-- each stop of the shape is one of so many
pub record AreStopsBelow (count : ℕ) (shape : ShapeOf) : Type 0 where
  pub each : (position : ℕ) (spot : Spot) → slice_get shape.pattern position ≡ Some spot → spot.stop < count

-- the same number at each of the shape's stops
pub record IsUnchanged (before now : List ℕ) (shape : ShapeOf) : Type 0 where
  pub each : (position : ℕ) (spot : Spot) → slice_get shape.pattern position ≡ Some spot → number_at now spot.stop ≡ number_at before spot.stop
