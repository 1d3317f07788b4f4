-- Runs put into lanes, one after the other.
use Rattle.std.specs.Prelude.{◌≡◌, ℕ, ◌<◌, ◌⊎◌, List, [], ◌∷◌, ◌++◌, length, Some, slice_set}
use Rattle.std.specs.List.{slice_get}
use Rattle.otp_model.specs.declared.timetable.Run.{Run}
use Rattle.trip_patterns.specs.Lanes.{IsLane, LaneOf, empty_lane, with_run}

-- the run fits none of the first so many lanes
abbrev pub FitsNone : Run → List LaneOf → ℕ → Type 0
FitsNone run lanes n = (k : ℕ) (lane : LaneOf) → k < n → slice_get lanes k ≡ Some lane → IsLane (with_run lane run) → ⊥

-- this is the first of the lanes that the run fits
pub record IsFirstFit (run : Run) (lanes : List LaneOf) (place : ℕ) : Type 0 where
  pub lane : LaneOf
  pub lane_is : slice_get lanes place ≡ Some lane
  pub fits : IsLane (with_run lane run)
  pub first : FitsNone run lanes place

-- the run is the next row of the first lane that it fits
pub record IsJoined (run : Run) (before after : List LaneOf) : Type 0 where
  pub place : ℕ
  pub found : IsFirstFit run before place
  pub after_is : after ≡ slice_set before place (with_run found.lane run)

-- the run fits no lane, and stands in one of its own
pub record IsOpened (run : Run) (before after : List LaneOf) : Type 0 where
  pub unfit : FitsNone run before (length before)
  pub after_is : after ≡ before ++ with_run (empty_lane run) run ∷ []

abbrev pub IsPut : Run → List LaneOf → List LaneOf → Type 0
IsPut run before after = IsJoined run before after ⊎ IsOpened run before after

-- from these lanes on, the runs are put one after the other
abbrev pub ArePut : List Run → List LaneOf → List LaneOf → Type 0
ArePut [] before after = after ≡ before
ArePut (run ∷ runs) before after = (between : List LaneOf) × IsPut run before between × ArePut runs between after

-- The runs, taken in order, stand in these lanes: each in the first that it fits when its turn comes, or else in a new one.
abbrev pub ArePutInto : List Run → List LaneOf → Type 0
ArePutInto runs lanes = ArePut runs [] lanes
