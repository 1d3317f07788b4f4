-- Lanes: runs of one pattern and day, none of which overtakes another.
use Rattle.std.specs.Prelude.{◌≡◌, ℕ, ◌<◌, ◌≤◌, ℤ, pos, ◌≤ℤ◌, ◌<ℤ◌, List, [], ◌∷◌, ◌++◌, length, Some}
use Rattle.std.specs.List.{All, AllPairs, slice_get}
use Rattle.std.specs.Option.{option_map_or}
use Rattle.otp_model.specs.Patterns.{Spot, pattern_of}
use Rattle.otp_model.specs.declared.timetable.Call.{Call}
use Rattle.otp_model.specs.declared.timetable.Run.{Run}

-- what a lane stands for: the day and the pattern that its rows have in common, and its rows, which are runs, in order
pub record LaneOf : Type 0 where
  pub day : ℤ
  pub pattern : List Spot
  pub runs : List Run

-- at no call does the later run arrive or depart before the earlier one does
pub record IsNoEarlier (earlier later : Run) : Type 0 where
  pub each : (position : ℕ) (x y : Call) → slice_get earlier.calls position ≡ Some x → slice_get later.calls position ≡ Some y
      → (x.arrival ≤ℤ y.arrival) × (x.departure ≤ℤ y.departure)

-- the rows are of the lane's day and pattern, and in no column does a later row stand before an earlier one
pub record IsLane (lane : LaneOf) : Type 0 where
  pub day : All (λ (run : Run). run.name.day ≡ lane.day) lane.runs
  pub pattern : All (λ (run : Run). pattern_of run ≡ lane.pattern) lane.runs
  pub order : AllPairs IsNoEarlier lane.runs

-- the lane with one row more
abbrev pub with_run : LaneOf → Run → LaneOf
with_run lane run = record { day = lane.day; pattern = lane.pattern; runs = lane.runs ++ run ∷ [] }

-- a row's call at a position
pub record IsCallAt (runs : List Run) (row position : ℕ) (call : Call) : Type 0 where
  pub run : Run
  pub run_is : slice_get runs row ≡ Some run
  pub call_is : slice_get run.calls position ≡ Some call

-- the row is the first that departs from the position at a time or later; or the number of rows where none does
pub record IsFirstCatch (runs : List Run) (position : ℕ) (time : ℤ) (row : ℕ) : Type 0 where
  pub within : row ≤ length runs
  pub missed : (earlier : ℕ) (call : Call) → earlier < row → IsCallAt runs earlier position call → call.departure <ℤ time
  pub caught : (call : Call) → IsCallAt runs row position call → time ≤ℤ call.departure

-- when a run departs from the call at a position
abbrev pub departure_at : ℕ → Run → ℤ
departure_at position run = option_map_or (λ (call : Call). call.departure) (slice_get run.calls position) (pos 0)

-- a lane of this run's day and pattern, without rows
abbrev pub empty_lane : Run → LaneOf
empty_lane run = record { day = run.name.day; pattern = pattern_of run; runs = [] }
