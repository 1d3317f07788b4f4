-- Shapes: the pattern that runs have in common, whatever their day, and the least seconds that they take from call to call.
use Rattle.std.specs.Prelude.{◌≡◌, ℕ, ◌+◌, ◌<◌, pos, ◌+ℤ◌, ◌≤ℤ◌, List, [], length, Some, ◌==◌, if◌then◌else◌, slice_index_or}
use Rattle.std.specs.List.{Contains, flat_map, range_with_len, slice_get}
use Rattle.otp_model.specs.Patterns.{Spot, pattern_of}
use Rattle.otp_model.specs.Ranges.{IsTimely}
use Rattle.otp_model.specs.declared.timetable.Call.{Call}
use Rattle.otp_model.specs.declared.timetable.Run.{Run}
use Rattle.trip_patterns.specs.FirstFit.{rows_of}
use Rattle.trip_patterns.specs.Hops.{AreLeast}
use Rattle.trip_patterns.specs.Lanes.{LaneOf}

-- what a shape stands for: by position the spot, the seconds from the departure there to the next arrival, and those from the
-- arrival there to the departure
pub record ShapeOf : Type 0 where
  pub pattern : List Spot
  pub hops : List ℕ
  pub dwells : List ℕ

-- a hop and a dwell for each position
pub record IsShape (shape : ShapeOf) : Type 0 where
  pub hop_count : length shape.hops ≡ length shape.pattern
  pub dwell_count : length shape.dwells ≡ length shape.pattern

-- the shape has this pattern, and at each position the least hop and the least dwell of these runs
pub record IsShapeOf (pattern : List Spot) (runs : List Run) (shape : ShapeOf) : Type 0 where
  pub pattern_is : shape.pattern ≡ pattern
  pub least : AreLeast (length pattern) runs shape.hops shape.dwells

-- the run has the shape's pattern, and nowhere takes fewer seconds than the shape says
pub record FitsShape (shape : ShapeOf) (run : Run) : Type 0 where
  pub whole : IsShape shape
  pub pattern : pattern_of run ≡ shape.pattern
  pub hop : (position seconds : ℕ) (here next : Call) → slice_get shape.hops position ≡ Some seconds → slice_get run.calls position ≡ Some here
      → slice_get run.calls (position + 1) ≡ Some next → (here.departure +ℤ pos seconds) ≤ℤ next.arrival
  pub dwell : (position seconds : ℕ) (here : Call) → slice_get shape.dwells position ≡ Some seconds → slice_get run.calls position ≡ Some here
      → (here.arrival +ℤ pos seconds) ≤ℤ here.departure

-- a timely run fits the shape of runs that it is one of
abbrev pub FitShapes : Type 0
FitShapes = (pattern : List Spot) (runs : List Run) (shape : ShapeOf) (run : Run) → IsShapeOf pattern runs shape → Contains runs run → pattern_of run ≡ pattern
    → IsTimely run → FitsShape shape run

-- the shape with this number has the pattern of these lanes, and each timely row of theirs fits it
pub record HasShape (shapes : List ShapeOf) (number : ℕ) (lanes : List LaneOf) : Type 0 where
  pub within : number < length shapes
  pub pattern : (shape : ShapeOf) (lane : LaneOf) → slice_get shapes number ≡ Some shape → Contains lanes lane → lane.pattern ≡ shape.pattern
  pub fits : (shape : ShapeOf) (lane : LaneOf) (run : Run) → slice_get shapes number ≡ Some shape → Contains lanes lane → Contains lane.runs run → IsTimely run
      → FitsShape shape run

-- the rows of a block, if the shape with this number is its shape
abbrev pub rows_if : List (List LaneOf) → (ℕ → ℕ) → ℕ → ℕ → List Run
rows_if blocks shape_at number block = if shape_at block == number then rows_of (slice_index_or blocks block []) else []

-- the rows of those of the first so many blocks of which this is the shape
abbrev pub rows_before : List (List LaneOf) → (ℕ → ℕ) → ℕ → ℕ → List Run
rows_before blocks shape_at number count = flat_map (rows_if blocks shape_at number) (range_with_len 0 count)

-- each block has a shape, and each shape is that of the rows of its blocks
pub record HaveShapes (blocks : List (List LaneOf)) (shapes : List ShapeOf) (shape_at : ℕ → ℕ) : Type 0 where
  pub each : (block : ℕ) (lanes : List LaneOf) → slice_get blocks block ≡ Some lanes → HasShape shapes (shape_at block) lanes
  pub least : (number : ℕ) (shape : ShapeOf) → slice_get shapes number ≡ Some shape
      → IsShapeOf shape.pattern (rows_before blocks shape_at number (length blocks)) shape
