-- Which trips are kept, by number.
use Rattle.std.specs.Prelude.{◌≡◌, ℕ, ◌<◌, ◌&&◌, List, length, map, take, Bool, not, Option, Some, None, nat_eq, nat_le, count_by, if◌then◌else◌, slice_get, slice_index}
use Rattle.otp_model.specs.Sights.{has_name, place_of}
use Rattle.otp_base.specs.EachAt.{EachAt}
use Rattle.otp_model.specs.declared.links.TimeRow.{TimeRow}
use Rattle.otp_model.specs.declared.tables.StopRow.{StopRow}
use Rattle.otp_model.specs.declared.tables.StopTimeRow.{StopTimeRow}
use Rattle.otp_model.specs.declared.tables.TripRow.{TripRow}
use Rattle.gtfs_links.specs.Linked.{may}
use Rattle.gtfs_links.specs.Rules.{is_empty}

-- a row of `stop_times.txt` that names a stop, of the trip of this number
abbrev pub is_call_at : List (List ℕ) → ℕ → StopTimeRow → Bool
is_call_at trips trip row = nat_eq trip (place_of trips row.trip_id) && not (is_empty row.stop_id)

-- how many calls each trip has
pub record AreCounts (trips : List (List ℕ)) (rows : List StopTimeRow) (counts : List ℕ) : Type 0 where
  pub same_length : length counts ≡ length trips
  pub each : (trip : ℕ) → trip < length trips → slice_index counts trip ≡ count_by (is_call_at trips trip) rows

-- the number of a trip where it is kept: how many of those before it are, where so many calls are counted for each
abbrev pub number_at : List ℕ → ℕ → Option ℕ
number_at counts trip = if nat_le 2 (slice_index counts trip) then Some (count_by (nat_le 2) (take trip counts)) else None

abbrev pub IsNumberAt : List ℕ → ℕ → Option ℕ → Type 0
IsNumberAt counts trip number = number ≡ number_at counts trip

-- the number of a name that is there
abbrev pub number_in : List (List ℕ) → List ℕ → Option ℕ
number_in names name = if has_name names name then Some (place_of names name) else None

-- the trip at a place of these numbers has this new number
abbrev pub IsPlacedAs : Option ℕ → List ℕ → List (Option ℕ) → ℕ → Type 0
IsPlacedAs number numbers kept place = (trip : ℕ) × (slice_get numbers place ≡ Some trip) × (slice_get kept trip ≡ Some number)

-- the trip that a row names has the new number that it has among these names
abbrev pub IsPlacedIn : {R : Type 0} → List (List ℕ) → (R → List ℕ) → List ℕ → List (Option ℕ) → ℕ → R → Type 0
IsPlacedIn names id_of numbers kept place row = IsPlacedAs (number_in names (id_of row)) numbers kept place

-- the test passes the trips with at least two calls, where so many are counted for each
abbrev pub TellsKept : List ℕ → List TripRow → (TripRow → Bool) → Type 0
TellsKept counts rows is_kept = map (nat_le 2) counts ≡ map is_kept rows

pub record AreKeptNumbers (counts : List ℕ) (numbers : List (Option ℕ)) : Type 0 where
  pub same_length : length numbers ≡ length counts
  pub each : EachAt (IsNumberAt counts) numbers

-- a row of `stop_times.txt`, where it names a stop and its trip is kept, by the numbers of the two
abbrev pub placed_time : List StopRow → ℕ → Option ℕ → ℕ → StopTimeRow → Option TimeRow
placed_time stops n None stop row = None
placed_time stops n (Some trip) stop row = if is_empty row.stop_id then None else Some (record {
  row = n;
  trip = trip;
  seq = row.stop_sequence;
  stop = stop;
  arrival = row.arrival_time;
  departure = row.departure_time;
  board = may stops stop row.pickup_type;
  alight = may stops stop row.drop_off_type;
})
