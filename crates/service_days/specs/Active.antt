-- Which services run on a day (GTFS Schedule reference, `calendar.txt` and `calendar_dates.txt`). Days go by
-- their numbers, weekdays from Monday on (ISO 8601).
use Rattle.std.specs.Prelude.{◌≡◌, ℕ, ℤ, int_le, List, [], ◌∷◌, length, map, slice_get, slice_index, Bool, false, not, ◌&&◌, ◌||◌, ◌==◌, IsTrue}
use Rattle.std.specs.List.{filter, range_with_len}
use Rattle.std.specs.Option.{option_map_or}
use Rattle.std.specs.Ordering.{int_eq}
use Rattle.jiff_core.specs.Calendar.{weekday_number}
use Rattle.otp_model.specs.Services.{service_number, services_of}
use Rattle.otp_model.specs.Sights.{has_name}
use Rattle.otp_model.specs.declared.tables.CalendarRow.{CalendarRow}
use Rattle.otp_model.specs.declared.tables.DateRow.{DateRow}
use Rattle.otp_model.specs.declared.tables.Tables.{Tables}

-- the flags of the seven weekdays
abbrev pub weekday_flags : CalendarRow → List ℕ
weekday_flags row = row.monday ∷ row.tuesday ∷ row.wednesday ∷ row.thursday ∷ row.friday ∷ row.saturday ∷ row.sunday ∷ []

-- the row's flag of a weekday is 1, and the day is one from its start date to its end date
abbrev pub schedules_by : ℕ → ℤ → CalendarRow → Bool
schedules_by weekday day row = (slice_index (weekday_flags row) weekday == 1) && (int_le row.start_date day && int_le day row.end_date)

-- the row schedules its service on the day, by its weekday
abbrev pub schedules : ℤ → CalendarRow → Bool
schedules day = schedules_by (weekday_number day) day

-- the row is an exception of this type on the day: 1 adds its service, 2 removes it
abbrev pub excepts : ℕ → ℤ → DateRow → Bool
excepts kind day row = int_eq row.date day && (row.exception_type == kind)

-- the services that rows of `calendar.txt` schedule on the day
abbrev pub scheduled_ids : Tables → ℤ → List (List ℕ)
scheduled_ids tables day = map (λ (row : CalendarRow). row.service_id) (filter (schedules day) tables.calendars)

-- those that rows of `calendar_dates.txt` add on it or remove
abbrev pub excepted_ids : Tables → ℕ → ℤ → List (List ℕ)
excepted_ids tables kind day = map (λ (row : DateRow). row.service_id) (filter (excepts kind day) tables.dates)

-- a service runs where these are added, removed and scheduled: it is added, or it is scheduled and not removed
abbrev pub runs_by : List (List ℕ) → List (List ℕ) → List (List ℕ) → List ℕ → Bool
runs_by added removed scheduled id = has_name added id || (has_name scheduled id && not (has_name removed id))

-- the service runs on the day
abbrev pub runs_on : Tables → ℤ → List ℕ → Bool
runs_on tables day = runs_by (excepted_ids tables 1 day) (excepted_ids tables 2 day) (scheduled_ids tables day)

-- the service of this number, if there is one, passes a test
abbrev pub passes : (List ℕ → Bool) → List (List ℕ) → ℕ → Bool
passes test services number = option_map_or test (slice_get services number) false

-- the service of this number runs on the day
abbrev pub is_active : Tables → ℤ → ℕ → Bool
is_active tables day = passes (runs_on tables day) (services_of tables)

-- the numbers of the services that pass a test, rising
abbrev pub passing : (List ℕ → Bool) → List (List ℕ) → List ℕ
passing test services = filter (passes test services) (range_with_len 0 (length services))

-- the numbers of the services of the day, rising
abbrev pub active_services : Tables → ℤ → List ℕ
active_services tables day = passing (runs_on tables day) (services_of tables)

-- the number is that of a service that runs on the day
pub record NumbersActive (tables : Tables) (day : ℤ) (number : ℕ) : Type 0 where
  pub id : List ℕ
  pub runs : IsTrue (runs_on tables day id)
  pub is_number : number ≡ service_number tables id
