-- The kinds of rows of a feed's files, and the reader of each (GTFS Schedule reference, "Dataset Files" and
-- the field definitions of each file).
use Rattle.std.specs.Prelude.{ℕ, List, [], ◌∷◌, Result, Ok, codes}
use Rattle.gtfs_records.specs.Fields.{any_of, choice_of, clock_or_none_of, code_of, coordinate_of, count_of, count_or_none_of, filled_of, headway_of}
use Rattle.gtfs_records.specs.Table.{read_cell}
use Rattle.gtfs_records.specs.declared.fault.Fault.{Fault}
use Rattle.otp_base.specs.Results.{◌>>=◌}
use Rattle.otp_model.specs.Clock.{clock_of}
use Rattle.otp_model.specs.Day.{day_of}
use Rattle.otp_model.specs.Limits.{most_latitude, most_longitude}
use Rattle.otp_model.specs.declared.feed_fault.FeedFile.{FeedFile}
use Rattle.otp_model.specs.declared.feed_fault.FeedFile.TheVariants as feed
use Rattle.otp_model.specs.declared.tables.AgencyRow.{AgencyRow}
use Rattle.otp_model.specs.declared.tables.StopRow.{StopRow}
use Rattle.otp_model.specs.declared.tables.RouteRow.{RouteRow}
use Rattle.otp_model.specs.declared.tables.TripRow.{TripRow}
use Rattle.otp_model.specs.declared.tables.StopTimeRow.{StopTimeRow}
use Rattle.otp_model.specs.declared.tables.CalendarRow.{CalendarRow}
use Rattle.otp_model.specs.declared.tables.DateRow.{DateRow}
use Rattle.otp_model.specs.declared.tables.TransferLine.{TransferLine}
use Rattle.otp_model.specs.declared.tables.FrequencyRow.{FrequencyRow}

-- A kind of row: the file that it stands in, its columns, of which the first so many must be in the header,
-- and what its reader says of a row of this number with these cells.
pub record Kind (Row : Type 0) : Type 0 where
  pub file : FeedFile
  pub columns : List (List ℕ)
  pub needed : ℕ
  pub row_at : ℕ → (ℕ → List ℕ) → Result Row Fault

-- agency.txt
unfoldable pub agency_at : ℕ → (ℕ → List ℕ) → Result AgencyRow Fault
agency_at row cells = do
  agency_timezone ← read_cell filled_of row cells 0
  Ok (record { agency_timezone = agency_timezone })

abbrev pub agency_kind : Kind AgencyRow
agency_kind = record {
  file = feed.Agency;
  columns = codes "agency_timezone" ∷ [];
  needed = 1;
  row_at = agency_at;
}

-- stops.txt
unfoldable pub stop_at : ℕ → (ℕ → List ℕ) → Result StopRow Fault
stop_at row cells = do
  stop_id ← read_cell filled_of row cells 0
  stop_name ← read_cell any_of row cells 1
  stop_lat ← read_cell (coordinate_of most_latitude (cells 4)) row cells 2
  stop_lon ← read_cell (coordinate_of most_longitude (cells 4)) row cells 3
  location_type ← read_cell (choice_of 4) row cells 4
  parent_station ← read_cell any_of row cells 5
  Ok (record { stop_id = stop_id; stop_name = stop_name; stop_lat = stop_lat; stop_lon = stop_lon; location_type = location_type; parent_station = parent_station })

abbrev pub stop_kind : Kind StopRow
stop_kind = record {
  file = feed.Stops;
  columns = codes "stop_id" ∷ codes "stop_name" ∷ codes "stop_lat" ∷ codes "stop_lon" ∷ codes "location_type" ∷ codes "parent_station" ∷ [];
  needed = 1;
  row_at = stop_at;
}

-- routes.txt
unfoldable pub route_at : ℕ → (ℕ → List ℕ) → Result RouteRow Fault
route_at row cells = do
  route_id ← read_cell filled_of row cells 0
  Ok (record { route_id = route_id })

abbrev pub route_kind : Kind RouteRow
route_kind = record {
  file = feed.Routes;
  columns = codes "route_id" ∷ [];
  needed = 1;
  row_at = route_at;
}

-- trips.txt
unfoldable pub trip_at : ℕ → (ℕ → List ℕ) → Result TripRow Fault
trip_at row cells = do
  route_id ← read_cell filled_of row cells 0
  service_id ← read_cell filled_of row cells 1
  trip_id ← read_cell filled_of row cells 2
  Ok (record { route_id = route_id; service_id = service_id; trip_id = trip_id })

abbrev pub trip_kind : Kind TripRow
trip_kind = record {
  file = feed.Trips;
  columns = codes "route_id" ∷ codes "service_id" ∷ codes "trip_id" ∷ [];
  needed = 3;
  row_at = trip_at;
}

-- stop_times.txt
unfoldable pub stop_time_at : ℕ → (ℕ → List ℕ) → Result StopTimeRow Fault
stop_time_at row cells = do
  trip_id ← read_cell filled_of row cells 0
  arrival_time ← read_cell clock_or_none_of row cells 1
  departure_time ← read_cell clock_or_none_of row cells 2
  stop_id ← read_cell any_of row cells 3
  stop_sequence ← read_cell count_of row cells 4
  pickup_type ← read_cell (choice_of 3) row cells 5
  drop_off_type ← read_cell (choice_of 3) row cells 6
  Ok (record { trip_id = trip_id; arrival_time = arrival_time; departure_time = departure_time; stop_id = stop_id; stop_sequence = stop_sequence; pickup_type = pickup_type; drop_off_type = drop_off_type })

abbrev pub stop_time_kind : Kind StopTimeRow
stop_time_kind = record {
  file = feed.StopTimes;
  columns = codes "trip_id" ∷ codes "arrival_time" ∷ codes "departure_time" ∷ codes "stop_id" ∷ codes "stop_sequence" ∷ codes "pickup_type" ∷ codes "drop_off_type" ∷ [];
  needed = 5;
  row_at = stop_time_at;
}

-- calendar.txt
unfoldable pub calendar_at : ℕ → (ℕ → List ℕ) → Result CalendarRow Fault
calendar_at row cells = do
  service_id ← read_cell filled_of row cells 0
  monday ← read_cell (code_of 0 1) row cells 1
  tuesday ← read_cell (code_of 0 1) row cells 2
  wednesday ← read_cell (code_of 0 1) row cells 3
  thursday ← read_cell (code_of 0 1) row cells 4
  friday ← read_cell (code_of 0 1) row cells 5
  saturday ← read_cell (code_of 0 1) row cells 6
  sunday ← read_cell (code_of 0 1) row cells 7
  start_date ← read_cell day_of row cells 8
  end_date ← read_cell day_of row cells 9
  Ok (record { service_id = service_id; monday = monday; tuesday = tuesday; wednesday = wednesday; thursday = thursday; friday = friday; saturday = saturday; sunday = sunday; start_date = start_date; end_date = end_date })

abbrev pub calendar_kind : Kind CalendarRow
calendar_kind = record {
  file = feed.Calendar;
  columns = codes "service_id" ∷ codes "monday" ∷ codes "tuesday" ∷ codes "wednesday" ∷ codes "thursday" ∷ codes "friday" ∷ codes "saturday" ∷ codes "sunday" ∷ codes "start_date" ∷ codes "end_date" ∷ [];
  needed = 10;
  row_at = calendar_at;
}

-- calendar_dates.txt
unfoldable pub date_at : ℕ → (ℕ → List ℕ) → Result DateRow Fault
date_at row cells = do
  service_id ← read_cell filled_of row cells 0
  date ← read_cell day_of row cells 1
  exception_type ← read_cell (code_of 1 2) row cells 2
  Ok (record { service_id = service_id; date = date; exception_type = exception_type })

abbrev pub date_kind : Kind DateRow
date_kind = record {
  file = feed.CalendarDates;
  columns = codes "service_id" ∷ codes "date" ∷ codes "exception_type" ∷ [];
  needed = 3;
  row_at = date_at;
}

-- transfers.txt
unfoldable pub transfer_at : ℕ → (ℕ → List ℕ) → Result TransferLine Fault
transfer_at row cells = do
  from_stop_id ← read_cell any_of row cells 0
  to_stop_id ← read_cell any_of row cells 1
  transfer_type ← read_cell (choice_of 5) row cells 2
  min_transfer_time ← read_cell count_or_none_of row cells 3
  from_route_id ← read_cell any_of row cells 4
  to_route_id ← read_cell any_of row cells 5
  from_trip_id ← read_cell any_of row cells 6
  to_trip_id ← read_cell any_of row cells 7
  Ok (record { from_stop_id = from_stop_id; to_stop_id = to_stop_id; transfer_type = transfer_type; min_transfer_time = min_transfer_time; from_route_id = from_route_id; to_route_id = to_route_id; from_trip_id = from_trip_id; to_trip_id = to_trip_id })

abbrev pub transfer_kind : Kind TransferLine
transfer_kind = record {
  file = feed.Transfers;
  columns = codes "from_stop_id" ∷ codes "to_stop_id" ∷ codes "transfer_type" ∷ codes "min_transfer_time" ∷ codes "from_route_id" ∷ codes "to_route_id" ∷ codes "from_trip_id" ∷ codes "to_trip_id" ∷ [];
  needed = 0;
  row_at = transfer_at;
}

-- frequencies.txt
unfoldable pub frequency_at : ℕ → (ℕ → List ℕ) → Result FrequencyRow Fault
frequency_at row cells = do
  trip_id ← read_cell filled_of row cells 0
  start_time ← read_cell clock_of row cells 1
  end_time ← read_cell clock_of row cells 2
  headway_secs ← read_cell headway_of row cells 3
  exact_times ← read_cell (choice_of 1) row cells 4
  Ok (record { trip_id = trip_id; start_time = start_time; end_time = end_time; headway_secs = headway_secs; exact_times = exact_times })

abbrev pub frequency_kind : Kind FrequencyRow
frequency_kind = record {
  file = feed.Frequencies;
  columns = codes "trip_id" ∷ codes "start_time" ∷ codes "end_time" ∷ codes "headway_secs" ∷ codes "exact_times" ∷ [];
  needed = 4;
  row_at = frequency_at;
}
