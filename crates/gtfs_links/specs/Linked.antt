-- The linked feed, or its first fault: the files' records by the GTFS Schedule reference, ids as numbers in
-- row order.
use Rattle.std.specs.Prelude.{◌≡◌, ◌≢◌, ℕ, ◌+◌, ◌-◌, List, [], ◌∷◌, ◌++◌, length, map, Option, Some, None, Bool, not, ◌&&◌, ◌||◌, false, nat_eq, nat_le, count_by, if◌then◌else◌, Result, Ok, Err, slice_get}
use Rattle.std.specs.List.{All, AllPairs, filter}
use Rattle.std.specs.Option.{option_to_list}
use Rattle.std.specs.Str.{bytes_eq}
use Rattle.otp_model.specs.Plane.{point_at}
use Rattle.otp_model.specs.Services.{service_ids, services_of}
use Rattle.otp_model.specs.Sights.{has_name, place_of}
use Rattle.otp_model.specs.declared.feed_fault.FeedFault.{FeedFault}
use Rattle.otp_model.specs.declared.feed_fault.FeedFile.TheVariants as file
use Rattle.otp_model.specs.declared.links.TimeRow.{TimeRow}
use Rattle.otp_model.specs.declared.links.TransferRow.{TransferRow}
use Rattle.otp_model.specs.declared.tables.FrequencyRow.{FrequencyRow}
use Rattle.otp_model.specs.declared.tables.StopRow.{StopRow}
use Rattle.otp_model.specs.declared.tables.StopTimeRow.{StopTimeRow}
use Rattle.otp_model.specs.declared.tables.Tables.{Tables}
use Rattle.otp_model.specs.declared.tables.TransferLine.{TransferLine}
use Rattle.otp_model.specs.declared.tables.TripRow.{TripRow}
use Rattle.otp_model.specs.declared.timetable.Stop.{Stop}
use Rattle.otp_model.specs.declared.timetable.Trip.{Trip}
use Rattle.gtfs_links.specs.declared.indexes.Indexes.{Indexes}
use Rattle.gtfs_links.specs.declared.feed.HeadwayRow.{HeadwayRow}
use Rattle.gtfs_links.specs.declared.feed.Linked.{Linked}
use Rattle.gtfs_links.specs.declared.check.wrong.Column.TheVariants as column
use Rattle.gtfs_links.specs.Faults.{first_of, first_wrong}
use Rattle.gtfs_links.specs.Index.{HasId, id_of_calendar, id_of_route, trip_of_frequency, trip_of_time}
use Rattle.gtfs_links.specs.Rules.{agency_fault, date_rule, frequency_rule, id_of_stop, id_of_trip, id_rule, is_empty, stop_rule, time_rule, transfer_rule, trip_rule}

abbrev pub stop_ids : Tables → List (List ℕ)
stop_ids tables = map id_of_stop tables.stops

abbrev pub route_ids : Tables → List (List ℕ)
route_ids tables = map id_of_route tables.routes

abbrev pub trip_ids : Tables → List (List ℕ)
trip_ids tables = map id_of_trip tables.trips

-- the first fault over the files, in their order
abbrev pub fault_of : List ℕ → Tables → Option FeedFault
fault_of zone tables =
    first_of (agency_fault zone tables.agencies)
    (first_of (first_wrong file.Stops (stop_rule (has_name (stop_ids tables))) [] tables.stops)
    (first_of (first_wrong file.Routes (id_rule id_of_route column.RouteId) [] tables.routes)
    (first_of (first_wrong file.Trips (trip_rule (has_name (route_ids tables)) (has_name (service_ids tables))) [] tables.trips)
    (first_of (first_wrong file.StopTimes (time_rule (has_name (trip_ids tables)) (has_name (stop_ids tables))) [] tables.stop_times)
    (first_of (first_wrong file.Calendar (id_rule id_of_calendar column.ServiceId) [] tables.calendars)
    (first_of (first_wrong file.CalendarDates date_rule [] tables.dates)
    (first_of (first_wrong file.Transfers (transfer_rule (has_name (stop_ids tables))) [] tables.transfers)
    (first_wrong file.Frequencies (frequency_rule (has_name (trip_ids tables))) [] tables.frequencies))))))))

abbrev pub IsOtherTrip : TripRow → TripRow → Type 0
IsOtherTrip a b = a.trip_id ≢ b.trip_id

-- Where nothing is wrong with the tables, the place of an id in an index is the number of its row.
pub record AreNumbers (tables : Tables) (indexes : Indexes) : Type 0 where
  pub stops : indexes.stops ≡ stop_ids tables
  pub routes : indexes.routes ≡ route_ids tables
  pub services : indexes.services ≡ services_of tables
  pub trips : indexes.trips ≡ trip_ids tables
  pub apart : AllPairs IsOtherTrip tables.trips
  pub called : All (HasId (trip_ids tables) trip_of_time) tables.stop_times
  pub started : All (HasId (trip_ids tables) trip_of_frequency) tables.frequencies

-- the number of the record that a field names, where it names one
abbrev pub number_if : List (List ℕ) → List ℕ → Option ℕ
number_if ids id = if is_empty id then None else Some (place_of ids id)

-- a row of `stops.txt`
abbrev pub stop_at : ℕ → List (List ℕ) → StopRow → Stop
stop_at scale stops row =
    let point = point_at scale row.stop_lat row.stop_lon in
    record {
      id = row.stop_id;
      name = row.stop_name;
      x = point.x;
      y = point.y;
      kind = row.location_type;
      parent = number_if stops row.parent_station;
    }

-- a row of `stop_times.txt` that names a stop, of this trip
abbrev pub is_call_of : List ℕ → StopTimeRow → Bool
is_call_of trip row = bytes_eq trip row.trip_id && not (is_empty row.stop_id)

-- a trip is kept where at least two of the rows name a stop
abbrev pub has_calls : List StopTimeRow → List ℕ → Bool
has_calls times trip = nat_le 2 (count_by (is_call_of trip) times)

abbrev pub is_kept : List StopTimeRow → TripRow → Bool
is_kept times trip = has_calls times trip.trip_id

abbrev pub kept_trips : Tables → List TripRow
kept_trips tables = filter (is_kept tables.stop_times) tables.trips

abbrev pub kept_ids : Tables → List (List ℕ)
kept_ids tables = map id_of_trip (kept_trips tables)

-- a row of `trips.txt`, with its route and its service by number
abbrev pub trip_at : List (List ℕ) → List (List ℕ) → TripRow → Trip
trip_at routes services row = record {
  id = row.trip_id;
  route = place_of routes row.route_id;
  service = place_of services row.service_id;
}

-- a stop where vehicles are boarded and left: location_type 0
abbrev pub is_boarded : Option StopRow → Bool
is_boarded None = false
is_boarded (Some stop) = nat_eq stop.location_type 0

-- boarding or alighting at the stop of this number, by pickup_type or drop_off_type, of which 1 bars it
abbrev pub may : List StopRow → ℕ → ℕ → Bool
may stops stop kind = is_boarded (slice_get stops stop) && not (nat_eq kind 1)

-- a row of `stop_times.txt` of this number
abbrev pub time_at : List StopRow → List (List ℕ) → List (List ℕ) → ℕ → StopTimeRow → TimeRow
time_at stops ids trips n row =
    let stop = place_of ids row.stop_id in
    record {
      row = n;
      trip = place_of trips row.trip_id;
      seq = row.stop_sequence;
      stop = stop;
      arrival = row.arrival_time;
      departure = row.departure_time;
      board = may stops stop row.pickup_type;
      alight = may stops stop row.drop_off_type;
    }

-- the same, where it names a stop and its trip is one of these
abbrev pub time_if : List StopRow → List (List ℕ) → List (List ℕ) → ℕ → StopTimeRow → Option TimeRow
time_if stops ids trips n row =
    if not (is_empty row.stop_id) && has_name trips row.trip_id then Some (time_at stops ids trips n row) else None

-- the rows that name a stop, of these trips, where the first row has the number n
unfoldable pub times_from : List StopRow → List (List ℕ) → List (List ℕ) → ℕ → List StopTimeRow → List TimeRow
times_from stops ids trips n [] = []
times_from stops ids trips n (row ∷ rows) = option_to_list (time_if stops ids trips n row) ++ times_from stops ids trips (n + 1) rows

-- a row of `transfers.txt`, which is narrow where it is to hold for a route or a trip alone
abbrev pub transfer_at : List (List ℕ) → TransferLine → TransferRow
transfer_at stops row = record {
  from = number_if stops row.from_stop_id;
  to = number_if stops row.to_stop_id;
  kind = row.transfer_type;
  minimum = row.min_transfer_time;
  narrow = not (is_empty row.from_route_id) || (not (is_empty row.to_route_id) || (not (is_empty row.from_trip_id) || not (is_empty row.to_trip_id)));
}

-- a row of `frequencies.txt`, with its trip by number
abbrev pub headway_at : List (List ℕ) → FrequencyRow → HeadwayRow
headway_at trips row = record {
  trip = place_of trips row.trip_id;
  start = row.start_time;
  end = row.end_time;
  headway = row.headway_secs;
}

-- a row of one of these trips
abbrev pub is_headway_of : List (List ℕ) → FrequencyRow → Bool
is_headway_of trips row = has_name trips row.trip_id

-- the rows of these trips
abbrev pub headways_of : List (List ℕ) → List FrequencyRow → List HeadwayRow
headways_of trips rows = map (headway_at trips) (filter (is_headway_of trips) rows)

-- a row of `stop_times.txt` that names no stop
abbrev pub is_unnamed : StopTimeRow → Bool
is_unnamed row = is_empty row.stop_id

abbrev pub passed_of : Tables → ℕ → ℕ
passed_of tables kept = count_by is_unnamed tables.stop_times + (length tables.trips - kept)

-- the calls of the trips kept
abbrev pub times_of : Tables → List TimeRow
times_of tables = times_from tables.stops (stop_ids tables) (kept_ids tables) 1 tables.stop_times

-- the feed of tables without a fault; passed over are the rows that name no stop, and the trips not kept
abbrev pub feed_of : ℕ → Tables → Linked
feed_of scale tables = record {
  stops = map (stop_at scale (stop_ids tables)) tables.stops;
  trips = map (trip_at (route_ids tables) (services_of tables)) (kept_trips tables);
  times = times_of tables;
  transfers = map (transfer_at (stop_ids tables)) tables.transfers;
  passed = passed_of tables (length (kept_trips tables));
  headways = headways_of (kept_ids tables) tables.frequencies;
}

abbrev pub linked_or : Option FeedFault → Linked → Result Linked FeedFault
linked_or None linked = Ok linked
linked_or (Some fault) linked = Err fault

-- the linked feed, or the first fault
unfoldable pub linked_of : Tables → List ℕ → ℕ → Result Linked FeedFault
linked_of tables zone scale = linked_or (fault_of zone tables) (feed_of scale tables)
