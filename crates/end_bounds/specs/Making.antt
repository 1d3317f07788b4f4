-- How far tables of bounds are made.
use Rattle.std.specs.Prelude.{◌≡◌, ℕ, ◌-◌, ◌*◌, List, length}
use Rattle.otp_model.specs.declared.timetable.Edge.{Edge}
use Rattle.trip_patterns.specs.Shapes.{ShapeOf}
use Rattle.end_bounds.specs.Levels.{AreLevels, AreScanned}
use Rattle.end_bounds.specs.Tables.{IsColumn}

-- Tables of so many levels, and what the next one begins with: its seconds, and what was scanned for those of the last one.
pub record AreMade (from : List (List Edge)) (slack stops places : ℕ) (shapes : List ShapeOf) (bases : List ℕ) (rides : ℕ) (first : List ℕ) (count : ℕ)
    (alight ready place before now readies onward : List ℕ) : Type 0 where
  pub alight_size : length alight ≡ stops * rides
  pub ready_size : length ready ≡ stops * (rides - 1)
  pub place_size : length place ≡ places * (rides - 1)
  pub now_size : length now ≡ stops
  pub readies_size : length readies ≡ stops
  pub onward_size : length onward ≡ places
  pub scanned : AreScanned before shapes bases (length shapes) readies onward
  pub now_is : IsColumn rides alight count now
  pub levels : AreLevels from slack stops shapes bases rides first count alight ready place
