-- The rows of a lane as they are kept: a row's stops stand once, in the lane's pattern, and beside it in lists the
-- sequences and the times that are its own.
use Rattle.std.specs.Prelude.{◌≡◌, ℕ, ◌+◌, ◌*◌, ◌≤◌, ℤ, pos, ◌≤ℤ◌, List, [], ◌∷◌, length, map, Some, slice_index_or}
use Rattle.std.specs.List.{All, flat_map, range_with_len, slice_get}
use Rattle.otp_model.specs.Patterns.{Spot}
use Rattle.otp_model.specs.declared.timetable.Call.{Call}
use Rattle.otp_model.specs.declared.timetable.Run.{Run}
use Rattle.trip_patterns.specs.declared.row.Row.{Row}
use Rattle.trip_patterns.specs.Hops.{AreLeast}
use Rattle.trip_patterns.specs.Lanes.{IsLane, IsNoEarlier, LaneOf}

-- the calls of these stops, with these sequences and times
abbrev pub calls_of : List Spot → List ℕ → List ℤ → List ℤ → List Call
calls_of [] seqs arrivals departures = []
calls_of (spot ∷ spots) [] arrivals departures = []
calls_of (spot ∷ spots) (seq ∷ seqs) [] departures = []
calls_of (spot ∷ spots) (seq ∷ seqs) (arrival ∷ arrivals) [] = []
calls_of (spot ∷ spots) (seq ∷ seqs) (arrival ∷ arrivals) (departure ∷ departures) =
    record { stop = spot.stop; seq = seq; arrival = arrival; departure = departure; board = spot.board; alight = spot.alight }
    ∷ calls_of spots seqs arrivals departures

abbrev pub run_of : List Spot → Row → Run
run_of pattern row = record { name = row.name; calls = calls_of pattern row.seqs row.arrivals row.departures }

-- what rows of this day and pattern stand for
abbrev pub lane_of : ℤ → List Spot → List Row → LaneOf
lane_of day pattern rows = record { day = day; pattern = pattern; runs = map (run_of pattern) rows }

-- the row has a sequence, an arrival and a departure for each of so many stops
pub record IsRow (stops : ℕ) (row : Row) : Type 0 where
  pub seqs : length row.seqs ≡ stops
  pub arrivals : length row.arrivals ≡ stops
  pub departures : length row.departures ≡ stops

-- the rows are those of a lane of this day and pattern
pub record AreRows (day : ℤ) (pattern : List Spot) (rows : List Row) : Type 0 where
  pub each : All (IsRow (length pattern)) rows
  pub lane : IsLane (lane_of day pattern rows)

-- the row is what the run has of its own
pub record IsRowOf (run : Run) (row : Row) : Type 0 where
  pub name : row.name ≡ run.name
  pub seqs : row.seqs ≡ map (λ (call : Call). call.seq) run.calls
  pub arrivals : row.arrivals ≡ map (λ (call : Call). call.arrival) run.calls
  pub departures : row.departures ≡ map (λ (call : Call). call.departure) run.calls

-- at no call does the row stand behind these calls of another run
pub record IsRowBefore (row : Row) (calls : List Call) : Type 0 where
  pub each : (position : ℕ) (call : Call) → slice_get calls position ≡ Some call
      → (slice_index_or row.arrivals position (pos 0) ≤ℤ call.arrival) × (slice_index_or row.departures position (pos 0) ≤ℤ call.departure)

-- the last of the rows, if there is one, stands nowhere behind these calls
abbrev pub IsLastBefore : List Row → List Call → Type 0
IsLastBefore rows calls = (k : ℕ) (row : Row) → length rows ≡ k + 1 → slice_get rows k ≡ Some row → IsRowBefore row calls

-- the last of the runs, if there is one, stands nowhere behind this one
abbrev pub IsBehindLast : List Run → Run → Type 0
IsBehindLast runs run = (k : ℕ) (last : Run) → length runs ≡ k + 1 → slice_get runs k ≡ Some last → IsNoEarlier last run

-- the departures of all rows at one position
abbrev pub column : List Row → ℕ → List ℤ
column rows position = map (λ (row : Row). slice_index_or row.departures position (pos 0)) rows

-- the columns, one behind the other
abbrev pub columns : ℕ → List Row → List ℤ
columns stops rows = flat_map (column rows) (range_with_len 0 stops)

-- what a builder holds: the rows of a lane, their least times, and room for their columns, of which none is written
pub record IsBuilt (day : ℤ) (pattern : List Spot) (rows : List Row) (written : List ℤ) (room : ℕ) (hops dwells : List ℕ) : Type 0 where
  pub are_rows : AreRows day pattern rows
  pub are_least : AreLeast (length pattern) (map (run_of pattern) rows) hops dwells
  pub unwritten : written ≡ []
  pub has_room : length rows * length pattern ≤ room

-- what a lane holds: its rows, their columns, and their least times
pub record IsWhole (day : ℤ) (pattern : List Spot) (rows : List Row) (written : List ℤ) (hops dwells : List ℕ) : Type 0 where
  pub are_rows : AreRows day pattern rows
  pub are_least : AreLeast (length pattern) (map (run_of pattern) rows) hops dwells
  pub are_columns : written ≡ columns (length pattern) rows
