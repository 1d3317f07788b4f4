-- Shapes that are made block by block.
use Rattle.std.specs.Prelude.{◌≡◌, ℕ, ◌<◌, ◌≤◌, ◌⊎◌, List, [], ◌∷◌, ◌++◌, length, Some, slice_index, slice_index_or, slice_set}
use Rattle.std.specs.List.{Contains, slice_get}
use Rattle.otp_model.specs.Patterns.{Spot}
use Rattle.otp_model.specs.declared.timetable.Run.{Run}
use Rattle.trip_patterns.specs.declared.span.Span.{Span}
use Rattle.trip_patterns.specs.Lanes.{LaneOf}
use Rattle.trip_patterns.specs.Shapes.{IsShapeOf, ShapeOf, rows_before}
use Rattle.trip_patterns.specs.Spans.{IsSpanOf}

abbrev pub shape_in : List ShapeOf → ℕ → ShapeOf
shape_in shapes number = slice_index_or shapes number (record { pattern = []; hops = []; dwells = [] })

-- the shape with this number is there, and has the pattern of the lanes
pub record IsOfPattern (shapes : List ShapeOf) (number : ℕ) (lanes : List LaneOf) : Type 0 where
  pub within : number < length shapes
  pub pattern : (lane : LaneOf) → Contains lanes lane → lane.pattern ≡ (shape_in shapes number).pattern

-- the first so many blocks have shapes with these numbers, and each shape is that of their rows
pub record AreShaped (blocks : List (List LaneOf)) (numbers : List ℕ) (count : ℕ) (shapes : List ShapeOf) : Type 0 where
  pub numbered : length numbers ≡ count
  pub each : (block : ℕ) → block < count → IsOfPattern shapes (slice_index numbers block) (slice_index_or blocks block [])
  pub least : (number : ℕ) → number < length shapes
      → IsShapeOf (shape_in shapes number).pattern (rows_before blocks (slice_index numbers) number count) (shape_in shapes number)
  pub beyond : (number : ℕ) → length shapes ≤ number → rows_before blocks (slice_index numbers) number count ≡ []

-- a shape that was there becomes that of these rows too
pub record IsJoined (pattern : List Spot) (rows : List Run) (before after : List ShapeOf) (number : ℕ) : Type 0 where
  pub within : number < length before
  pub pattern_is : (shape_in before number).pattern ≡ pattern
  pub shape : ShapeOf
  pub after_is : after ≡ slice_set before number shape
  pub joined : (runs : List Run) → IsShapeOf pattern runs (shape_in before number) → IsShapeOf pattern (runs ++ rows) shape

-- a shape of these rows alone comes behind those that were there
pub record IsMade (pattern : List Spot) (rows : List Run) (before after : List ShapeOf) (number : ℕ) : Type 0 where
  pub number_is : number ≡ length before
  pub shape : ShapeOf
  pub after_is : after ≡ before ++ shape ∷ []
  pub made : IsShapeOf pattern rows shape

abbrev pub IsShaped : List Spot → List Run → List ShapeOf → List ShapeOf → ℕ → Type 0
IsShaped pattern rows before after number = IsJoined pattern rows before after number ⊎ IsMade pattern rows before after number

-- each block's span
pub record AreSpans (blocks : List (List LaneOf)) (spans : List Span) : Type 0 where
  pub count : length spans ≡ length blocks
  pub each : (block : ℕ) (lanes : List LaneOf) (span : Span) → slice_get blocks block ≡ Some lanes → slice_get spans block ≡ Some span → IsSpanOf lanes span
