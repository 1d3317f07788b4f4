-- What holds of the records of a feed's files once they were read: which texts are filled, and the
-- ranges of the numbers, as the GTFS Schedule reference gives them or as this project's readers bound them.
use Rattle.std.specs.Prelude.{◌≢◌, ℕ, ◌<◌, ◌≤◌, ◌^◌, ℤ, pos, neg_ℤ, ◌≤ℤ◌, List, [], length, Option, IfSome}
use Rattle.std.specs.List.{All}
use Rattle.jiff_core.specs.Calendar.{IsEpochDay}
use Rattle.otp_model.specs.Limits.{clock_end, most_latitude, most_longitude, most_records}
use Rattle.otp_model.specs.declared.tables.AgencyRow.{AgencyRow}
use Rattle.otp_model.specs.declared.tables.StopRow.{StopRow}
use Rattle.otp_model.specs.declared.tables.RouteRow.{RouteRow}
use Rattle.otp_model.specs.declared.tables.TripRow.{TripRow}
use Rattle.otp_model.specs.declared.tables.StopTimeRow.{StopTimeRow}
use Rattle.otp_model.specs.declared.tables.CalendarRow.{CalendarRow}
use Rattle.otp_model.specs.declared.tables.DateRow.{DateRow}
use Rattle.otp_model.specs.declared.tables.TransferLine.{TransferLine}
use Rattle.otp_model.specs.declared.tables.FrequencyRow.{FrequencyRow}
use Rattle.otp_model.specs.declared.tables.Tables.{Tables}

-- from -limit to limit
pub record IsWithin (limit : ℕ) (z : ℤ) : Type 0 where
  pub low : neg_ℤ (pos limit) ≤ℤ z
  pub high : z ≤ℤ pos limit

-- a time of day, if there is one, of at most 999:59:59
abbrev pub IsClock : Option ℕ → Type 0
IsClock time = IfSome time (λ seconds. seconds < clock_end)

pub record IsAgencyRow (row : AgencyRow) : Type 0 where
  pub zone : row.agency_timezone ≢ []

pub record IsStopRow (row : StopRow) : Type 0 where
  pub id : row.stop_id ≢ []
  pub lat : IsWithin most_latitude row.stop_lat
  pub lon : IsWithin most_longitude row.stop_lon
  pub location : row.location_type ≤ 4

pub record IsRouteRow (row : RouteRow) : Type 0 where
  pub id : row.route_id ≢ []

pub record IsTripRow (row : TripRow) : Type 0 where
  pub route : row.route_id ≢ []
  pub service : row.service_id ≢ []
  pub id : row.trip_id ≢ []

pub record IsStopTimeRow (row : StopTimeRow) : Type 0 where
  pub trip : row.trip_id ≢ []
  pub arrival : IsClock row.arrival_time
  pub departure : IsClock row.departure_time
  pub sequence : row.stop_sequence < 10 ^ 9
  pub pickup : row.pickup_type ≤ 3
  pub drop_off : row.drop_off_type ≤ 3

pub record IsCalendarRow (row : CalendarRow) : Type 0 where
  pub service : row.service_id ≢ []
  pub monday : row.monday ≤ 1
  pub tuesday : row.tuesday ≤ 1
  pub wednesday : row.wednesday ≤ 1
  pub thursday : row.thursday ≤ 1
  pub friday : row.friday ≤ 1
  pub saturday : row.saturday ≤ 1
  pub sunday : row.sunday ≤ 1
  pub start : IsEpochDay row.start_date
  pub end : IsEpochDay row.end_date

pub record IsDateRow (row : DateRow) : Type 0 where
  pub service : row.service_id ≢ []
  pub date : IsEpochDay row.date
  pub added_or_removed : (1 ≤ row.exception_type) × (row.exception_type ≤ 2)

pub record IsTransferLine (row : TransferLine) : Type 0 where
  pub kind : row.transfer_type ≤ 5
  pub minimum : row.min_transfer_time < 10 ^ 9

-- its trip starts each `headway_secs`, which are at most 999,999 and never 0
pub record IsFrequencyRow (row : FrequencyRow) : Type 0 where
  pub trip : row.trip_id ≢ []
  pub start : row.start_time < clock_end
  pub end : row.end_time < clock_end
  pub headway : (1 ≤ row.headway_secs) × (row.headway_secs < 10 ^ 6)
  pub exact : row.exact_times ≤ 1

-- no more records than a file may have, and each in its ranges
pub record AreRead {Row : Type 0} (IsRow : Row → Type 0) (rows : List Row) : Type 0 where
  pub few : length rows ≤ most_records
  pub each : All IsRow rows

pub record AreTables (tables : Tables) : Type 0 where
  pub agencies : AreRead IsAgencyRow tables.agencies
  pub stops : AreRead IsStopRow tables.stops
  pub routes : AreRead IsRouteRow tables.routes
  pub trips : AreRead IsTripRow tables.trips
  pub stop_times : AreRead IsStopTimeRow tables.stop_times
  pub calendars : AreRead IsCalendarRow tables.calendars
  pub dates : AreRead IsDateRow tables.dates
  pub transfers : AreRead IsTransferLine tables.transfers
  pub frequencies : AreRead IsFrequencyRow tables.frequencies
