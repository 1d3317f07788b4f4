-- Services by number: the service_ids of `calendar.txt` and then those of `calendar_dates.txt`, in the order
-- of first sight (GTFS Schedule reference, `calendar.txt` and `calendar_dates.txt`).
use Rattle.std.specs.Prelude.{ℕ, List, ◌++◌, map}
use Rattle.otp_model.specs.declared.tables.CalendarRow.{CalendarRow}
use Rattle.otp_model.specs.declared.tables.DateRow.{DateRow}
use Rattle.otp_model.specs.declared.tables.Tables.{Tables}
use Rattle.otp_model.specs.Sights.{first_sights, place_of}

-- the service_ids of both files, row by row
abbrev pub service_ids : Tables → List (List ℕ)
service_ids tables = map (λ (row : CalendarRow). row.service_id) tables.calendars ++ map (λ (row : DateRow). row.service_id) tables.dates

-- the services, each once
abbrev pub services_of : Tables → List (List ℕ)
services_of tables = first_sights (service_ids tables)

-- the number of a service; that of an id that isn't there is the count of services
abbrev pub service_number : Tables → List ℕ → ℕ
service_number tables id = place_of (services_of tables) id
