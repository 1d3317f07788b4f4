-- The calls of a trip: its rows of `stop_times.txt` by rising stop_sequence, with a time where none is given
-- (GTFS Schedule reference, `stop_times.txt`). A call without a time stands in equal steps between the calls
-- with times around it; that filling is this project's own. Times are seconds of the service day.
use Rattle.std.specs.Prelude.{◌≡◌, ◌⊎◌, ℕ, ◌-◌, ◌<◌, ℤ, pos, ◌+ℤ◌, ◌-ℤ◌, ◌*ℤ◌, ◌<ℤ◌, List, length, Option, None, Some, slice_get}
use Rattle.std.specs.Int.{int_div_euclid}
use Rattle.std.specs.List.{AllPairs, Contains, filter}
use Rattle.gtfs_links.specs.Resolved.{is_time_of}
use Rattle.otp_base.specs.EachAt.{EachAt}
use Rattle.otp_model.specs.declared.links.TimeRow.{TimeRow}
use Rattle.otp_model.specs.declared.timetable.Call.{Call}

-- the rows of a trip, in row order
abbrev pub rows_of : List TimeRow → ℕ → List TimeRow
rows_of times trip = filter (is_time_of trip) times

-- the same rows, by rising sequence
pub record IsInOrder (rows ordered : List TimeRow) : Type 0 where
  pub rises : AllPairs (λ a b. a.seq < b.seq) ordered
  pub kept : (row : TimeRow) → Contains rows row → Contains ordered row
  pub only : (row : TimeRow) → Contains ordered row → Contains rows row

-- the first of two times that is given
abbrev pub first_given : Option ℕ → Option ℕ → Option ℕ
first_given (Some time) other = Some time
first_given None other = other

-- a given time serves as the other one too
abbrev pub given_arrival : TimeRow → Option ℕ
given_arrival row = first_given row.arrival row.departure

abbrev pub given_departure : TimeRow → Option ℕ
given_departure row = first_given row.departure row.arrival

-- a row gives times
pub record GivesTimes (row : TimeRow) (arrival departure : ℕ) : Type 0 where
  pub arrives : given_arrival row ≡ Some arrival
  pub departs : given_departure row ≡ Some departure

-- or it gives none
abbrev pub IsUntimed : TimeRow → Type 0
IsUntimed row = given_arrival row ≡ None

-- the place is that of a row that gives times
pub record GivesTimesAt (rows : List TimeRow) (place arrival departure : ℕ) : Type 0 where
  pub row : TimeRow
  pub stands : slice_get rows place ≡ Some row
  pub gives : GivesTimes row arrival departure

abbrev pub IsUntimedAt : List TimeRow → ℕ → Type 0
IsUntimedAt rows place = (row : TimeRow) × (slice_get rows place ≡ Some row) × IsUntimed row

-- A gap: rows without times between two with times, the one left at `departure`, the other reached at `arrival`.
pub record IsGap (rows : List TimeRow) (from to departure arrival : ℕ) : Type 0 where
  pub ends : from < to
  pub left : (time : ℕ) × GivesTimesAt rows from time departure
  pub reached : (time : ℕ) × GivesTimesAt rows to arrival time
  pub between : (place : ℕ) → from < place → place < to → IsUntimedAt rows place

-- the time at a place in a gap, in equal steps from its start, rounded down
abbrev pub time_in_gap : ℕ → ℕ → ℕ → ℕ → ℕ → ℤ
time_in_gap from to departure arrival place =
    pos departure +ℤ int_div_euclid ((pos arrival -ℤ pos departure) *ℤ pos (place - from)) (pos (to - from))

-- the call at a place has the time of the gap that the place stands in
pub record IsFilled (rows : List TimeRow) (place : ℕ) (call : Call) : Type 0 where
  pub untimed : IsUntimedAt rows place
  pub from : ℕ
  pub to : ℕ
  pub start : ℕ
  pub end : ℕ
  pub gap : IsGap rows from to start end
  pub after : from < place
  pub before : place < to
  pub arrives : call.arrival ≡ time_in_gap from to start end place
  pub departs : call.departure ≡ time_in_gap from to start end place

-- the call at a place has the times that its row gives
pub record IsGiven (rows : List TimeRow) (place : ℕ) (call : Call) : Type 0 where
  pub start : ℕ
  pub end : ℕ
  pub gives : GivesTimesAt rows place start end
  pub arrives : call.arrival ≡ pos start
  pub departs : call.departure ≡ pos end

-- the call is that of the row, but for its times
pub record IsCallOf (row : TimeRow) (call : Call) : Type 0 where
  pub stop : call.stop ≡ row.stop
  pub seq : call.seq ≡ row.seq
  pub board : call.board ≡ row.board
  pub alight : call.alight ≡ row.alight

-- the call of the row at a place
pub record IsCallAt (rows : List TimeRow) (place : ℕ) (call : Call) : Type 0 where
  pub row : TimeRow
  pub stands : slice_get rows place ≡ Some row
  pub is : IsCallOf row call
  pub times : IsGiven rows place call ⊎ IsFilled rows place call

-- the calls of rows that are in order
pub record AreCallsOf (rows : List TimeRow) (calls : List Call) : Type 0 where
  pub count : length calls ≡ length rows
  pub each : EachAt (IsCallAt rows) calls

-- in the order arrival, departure, a time at this place is below the one before it
pub record FallsAt (calls : List Call) (place : ℕ) : Type 0 where
  pub call : Call
  pub stands : slice_get calls place ≡ Some call
  pub falls : (call.departure <ℤ call.arrival) ⊎ ((before : Call) × (0 < place) × (slice_get calls (place - 1) ≡ Some before) × (call.arrival <ℤ before.departure))

-- it is the first such place
pub record FallsFirstAt (calls : List Call) (place : ℕ) : Type 0 where
  pub here : FallsAt calls place
  pub first : (earlier : ℕ) → earlier < place → FallsAt calls earlier → ⊥

-- the first and the last row give times
pub record HasEnds (rows : List TimeRow) : Type 0 where
  pub first : (start end : ℕ) × GivesTimesAt rows 0 start end
  pub last : (start end : ℕ) × GivesTimesAt rows (length rows - 1) start end

-- the first row without times, of the first and the last one
abbrev pub LacksAnEndAt : List TimeRow → ℕ → Type 0
LacksAnEndAt rows place =
    ((place ≡ 0) × IsUntimedAt rows 0)
    ⊎ ((place ≡ length rows - 1) × IsUntimedAt rows (length rows - 1) × ((start end : ℕ) × GivesTimesAt rows 0 start end))
