-- The rows with times that stand round a place.
use Rattle.std.specs.Prelude.{ℕ, ◌-◌, ◌^◌, ◌<◌, ◌≤◌, List, length}
use Rattle.std.specs.List.{All}
use Rattle.otp_model.specs.Limits.{clock_end}
use Rattle.otp_model.specs.Rows.{IsClock}
use Rattle.otp_model.specs.declared.links.TimeRow.{TimeRow}
use Rattle.feed_load.specs.declared.gap.Anchor.{Anchor}
use Rattle.feed_load.specs.declared.gap.Times.{Times}
use Rattle.feed_load.specs.declared.trip_calls.Ends.{Ends}
use Rattle.feed_load.specs.Calls.{GivesTimesAt, IsUntimedAt}

-- the times of a row are at most 999:59:59
pub record HasClocks (row : TimeRow) : Type 0 where
  pub arrival : IsClock row.arrival
  pub departure : IsClock row.departure

abbrev pub AreSmall : Times → Type 0
AreSmall times = (times.arrival < clock_end) × (times.departure < clock_end)

-- rows of a trip
pub record AreRows (rows : List TimeRow) : Type 0 where
  pub few : length rows < 2 ^ 32
  pub clocks : All HasClocks rows

-- the last row before a place, or at it, that gives times, with its departure
pub record IsLeft (rows : List TimeRow) (place : ℕ) (left : Anchor) : Type 0 where
  pub before : left.place ≤ place
  pub gives : (arrival : ℕ) × GivesTimesAt rows left.place arrival left.time
  pub small : left.time < clock_end
  pub between : (k : ℕ) → left.place < k → k < place → IsUntimedAt rows k

-- the first row at a place, or behind it, that gives times, with its arrival
pub record IsReached (rows : List TimeRow) (place : ℕ) (reached : Anchor) : Type 0 where
  pub behind : place ≤ reached.place
  pub within : reached.place < length rows
  pub gives : (departure : ℕ) × GivesTimesAt rows reached.place reached.time departure
  pub small : reached.time < clock_end
  pub between : (k : ℕ) → place ≤ k → k < reached.place → IsUntimedAt rows k

-- the departure of the first row and the arrival of the last one
pub record AreEnds (rows : List TimeRow) (ends : Ends) : Type 0 where
  pub some : 0 < length rows
  pub first : (arrival : ℕ) × GivesTimesAt rows 0 arrival ends.departure
  pub last : (departure : ℕ) × GivesTimesAt rows (length rows - 1) ends.arrival departure
  pub leaves : ends.departure < clock_end
  pub arrives : ends.arrival < clock_end
