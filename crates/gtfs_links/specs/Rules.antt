-- What may be wrong with a record beside the others (GTFS Schedule reference): a primary key that an earlier
-- record has, a foreign id that no record has, a time zone that isn't the one that is wanted.
use Rattle.std.specs.Prelude.{ℕ, List, [], ◌∷◌, length, map, Option, Some, None, Bool, not, ◌&&◌, nat_eq, if◌then◌else◌}
use Rattle.std.specs.List.{list_any}
use Rattle.std.specs.Ordering.{int_eq}
use Rattle.std.specs.Str.{bytes_eq}
use Rattle.otp_model.specs.Sights.{has_name}
use Rattle.otp_model.specs.declared.feed_fault.FeedFault.{FeedFault}
use Rattle.otp_model.specs.declared.tables.AgencyRow.{AgencyRow}
use Rattle.otp_model.specs.declared.tables.StopRow.{StopRow}
use Rattle.otp_model.specs.declared.tables.TripRow.{TripRow}
use Rattle.otp_model.specs.declared.tables.StopTimeRow.{StopTimeRow}
use Rattle.otp_model.specs.declared.tables.DateRow.{DateRow}
use Rattle.otp_model.specs.declared.tables.TransferLine.{TransferLine}
use Rattle.otp_model.specs.declared.tables.FrequencyRow.{FrequencyRow}
use Rattle.otp_model.specs.declared.feed_fault.FeedFile.TheVariants as file
use Rattle.gtfs_links.specs.declared.check.wrong.Column.{Column}
use Rattle.gtfs_links.specs.declared.check.wrong.Column.TheVariants as column
use Rattle.gtfs_links.specs.declared.check.wrong.Wrong.{Wrong}
use Rattle.gtfs_links.specs.Faults.{duplicate, fault_of_row, first_wrong, other_zone, unknown}

-- nothing stands in the field
abbrev pub is_empty : List ℕ → Bool
is_empty text = nat_eq (length text) 0

-- a field that names a record which isn't there, by a test of which are there
abbrev pub is_unknown : (List ℕ → Bool) → List ℕ → Bool
is_unknown known id = not (is_empty id) && not (known id)

-- an earlier record has the id
abbrev pub is_repeated : {R : Type 0} → (R → List ℕ) → List R → R → Bool
is_repeated id_of before row = has_name (map id_of before) (id_of row)

abbrev pub zone_wrong : List ℕ → AgencyRow → Option Wrong
zone_wrong zone row = if bytes_eq row.agency_timezone zone then None else Some other_zone

abbrev pub agency_rule : List ℕ → List AgencyRow → AgencyRow → Option Wrong
agency_rule zone before row = zone_wrong zone row

-- an `agency.txt` without records has no time zone, which is a fault of its header
abbrev pub agency_fault : List ℕ → List AgencyRow → Option FeedFault
agency_fault zone [] = Some (fault_of_row file.Agency 0 other_zone)
agency_fault zone (row ∷ rows) = first_wrong file.Agency (agency_rule zone) [] (row ∷ rows)

-- a file whose records are only to differ by their ids
abbrev pub repeat_wrong : Column → Bool → Option Wrong
repeat_wrong column repeated = if repeated then Some (duplicate column) else None

abbrev pub id_rule : {R : Type 0} → (R → List ℕ) → Column → List R → R → Option Wrong
id_rule id_of column before row = repeat_wrong column (is_repeated id_of before row)

-- `stops.txt`, where these stops are there
abbrev pub stop_wrong : Bool → (List ℕ → Bool) → StopRow → Option Wrong
stop_wrong repeated known row =
    if repeated then Some (duplicate column.StopId)
    else if is_unknown known row.parent_station then Some (unknown column.ParentStation)
    else None

abbrev pub id_of_stop : StopRow → List ℕ
id_of_stop row = row.stop_id

abbrev pub stop_rule : (List ℕ → Bool) → List StopRow → StopRow → Option Wrong
stop_rule known before row = stop_wrong (is_repeated id_of_stop before row) known row

-- `trips.txt`, where these routes and these services are there
abbrev pub trip_wrong : Bool → (List ℕ → Bool) → (List ℕ → Bool) → TripRow → Option Wrong
trip_wrong repeated routes services row =
    if repeated then Some (duplicate column.TripId)
    else if is_unknown routes row.route_id then Some (unknown column.RouteId)
    else if is_unknown services row.service_id then Some (unknown column.ServiceId)
    else None

abbrev pub id_of_trip : TripRow → List ℕ
id_of_trip row = row.trip_id

abbrev pub trip_rule : (List ℕ → Bool) → (List ℕ → Bool) → List TripRow → TripRow → Option Wrong
trip_rule routes services before row = trip_wrong (is_repeated id_of_trip before row) routes services row

-- `stop_times.txt`: a trip has one row for each stop_sequence, where these trips and these stops are there
abbrev pub is_same_call : StopTimeRow → StopTimeRow → Bool
is_same_call row other = bytes_eq row.trip_id other.trip_id && nat_eq row.stop_sequence other.stop_sequence

abbrev pub wrong_call : Bool → Bool → Bool → Option Wrong
wrong_call repeated has_trip unknown_stop =
    if repeated then Some (duplicate column.StopSequence)
    else if not has_trip then Some (unknown column.TripId)
    else if unknown_stop then Some (unknown column.StopId)
    else None

abbrev pub time_wrong : Bool → (List ℕ → Bool) → (List ℕ → Bool) → StopTimeRow → Option Wrong
time_wrong repeated trips stops row = wrong_call repeated (trips row.trip_id) (is_unknown stops row.stop_id)

abbrev pub time_rule : (List ℕ → Bool) → (List ℕ → Bool) → List StopTimeRow → StopTimeRow → Option Wrong
time_rule trips stops before row = time_wrong (list_any (is_same_call row) before) trips stops row

-- `calendar_dates.txt`: a service has one row for each date
abbrev pub is_same_date : DateRow → DateRow → Bool
is_same_date row other = bytes_eq row.service_id other.service_id && int_eq row.date other.date

abbrev pub date_rule : List DateRow → DateRow → Option Wrong
date_rule before row = repeat_wrong column.Date (list_any (is_same_date row) before)

-- `transfers.txt`, where these stops are there
abbrev pub transfer_wrong : (List ℕ → Bool) → TransferLine → Option Wrong
transfer_wrong stops row =
    if is_unknown stops row.from_stop_id then Some (unknown column.FromStopId)
    else if is_unknown stops row.to_stop_id then Some (unknown column.ToStopId)
    else None

abbrev pub transfer_rule : (List ℕ → Bool) → List TransferLine → TransferLine → Option Wrong
transfer_rule stops before row = transfer_wrong stops row

-- `frequencies.txt`: a trip has one row for each start_time, where these trips are there
abbrev pub is_same_start : FrequencyRow → FrequencyRow → Bool
is_same_start row other = bytes_eq row.trip_id other.trip_id && nat_eq row.start_time other.start_time

abbrev pub wrong_start : Bool → Bool → Option Wrong
wrong_start repeated has_trip =
    if repeated then Some (duplicate column.StartTime)
    else if not has_trip then Some (unknown column.TripId)
    else None

abbrev pub frequency_rule : (List ℕ → Bool) → List FrequencyRow → FrequencyRow → Option Wrong
frequency_rule trips before row = wrong_start (list_any (is_same_start row) before) (trips row.trip_id)
