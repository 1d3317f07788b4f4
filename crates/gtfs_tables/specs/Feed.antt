-- The files of a feed, one after the other, with the first fault (GTFS Schedule reference, "Dataset Files").
use Rattle.std.specs.Prelude.{ℕ, List, [], ◌++◌, length, Option, Some, None, nat_lt, slice_index_or, if◌then◌else◌, Result, Ok, Err, codes}
use Rattle.otp_base.specs.Folder.{file_of}
use Rattle.otp_base.specs.Results.{◌>>=◌}
use Rattle.otp_base.specs.declared.folder.FileEntry.{FileEntry}
use Rattle.gtfs_records.specs.Records.{records_of}
use Rattle.gtfs_records.specs.Table.{table_of}
use Rattle.gtfs_records.specs.declared.fault.Fault.{Fault}
use Rattle.otp_model.specs.FeedFaults.{fault_at, fault_of_file, file_name}
use Rattle.otp_model.specs.Limits.{most_file_bytes}
use Rattle.otp_model.specs.declared.feed_fault.FeedCause.TheVariants as cause
use Rattle.otp_model.specs.declared.feed_fault.FeedFile.{FeedFile}
use Rattle.otp_model.specs.declared.feed_fault.FeedFile.TheVariants as feed
use Rattle.otp_model.specs.declared.feed_fault.FeedFault.{FeedFault}
use Rattle.otp_model.specs.declared.tables.CalendarRow.{CalendarRow}
use Rattle.otp_model.specs.declared.tables.DateRow.{DateRow}
use Rattle.otp_model.specs.declared.tables.Tables.{Tables}
use Rattle.gtfs_tables.specs.Rows.{Kind, agency_kind, calendar_kind, date_kind, frequency_kind, route_kind, stop_kind, stop_time_kind, transfer_kind, trip_kind}

-- a fault of a table, with its file and the name of its column
abbrev pub row_fault : {Row : Type 0} → Kind Row → Fault → FeedFault
row_fault kind f = fault_at f.cause kind.file f.row (slice_index_or kind.columns f.column [])

abbrev pub with_names : {Row X : Type 0} → Kind Row → Result X Fault → Result X FeedFault
with_names kind (Ok x) = Ok x
with_names kind (Err f) = Err (row_fault kind f)

-- the rows of a file
abbrev pub rows_of : {Row : Type 0} → Kind Row → List ℕ → Result (List Row) FeedFault
rows_of kind bytes =
    if nat_lt most_file_bytes (length bytes) then Err (fault_of_file cause.TooLarge kind.file)
    else with_names kind (table_of kind.columns kind.needed kind.row_at (records_of bytes))

-- those of a file that may be missing
abbrev pub rows_if_there : {Row : Type 0} → Kind Row → Option (List ℕ) → Result (Option (List Row)) FeedFault
rows_if_there kind None = Ok None
rows_if_there kind (Some bytes) = rows_of kind bytes >>= λ rows. Ok (Some rows)

-- the rows of a kind in a folder, if it has the file
abbrev pub found_in : {Row : Type 0} → Kind Row → List ℕ → List FileEntry → Result (Option (List Row)) FeedFault
found_in kind path files = rows_if_there kind (file_of files (path ++ (codes "/" ++ file_name kind.file)))

abbrev pub rows_there : {Row : Type 0} → FeedFile → Option (List Row) → Result (List Row) FeedFault
rows_there file None = Err (fault_of_file cause.MissingFile file)
rows_there file (Some rows) = Ok rows

abbrev pub rows_or_none : {Row : Type 0} → Option (List Row) → List Row
rows_or_none None = []
rows_or_none (Some rows) = rows

-- the rows of a kind whose file must be there
abbrev pub required_in : {Row : Type 0} → Kind Row → List ℕ → List FileEntry → Result (List Row) FeedFault
required_in kind path files = found_in kind path files >>= λ rows. rows_there kind.file rows

-- the rows of a kind whose file may be missing
abbrev pub optional_in : {Row : Type 0} → Kind Row → List ℕ → List FileEntry → Result (List Row) FeedFault
optional_in kind path files = found_in kind path files >>= λ rows. Ok (rows_or_none rows)

-- the rows of `calendar.txt` and `calendar_dates.txt`: where both are missing, `calendar.txt` is
abbrev pub either_calendar : Option (List CalendarRow) → Option (List DateRow) → Result (List CalendarRow × List DateRow) FeedFault
either_calendar None None = Err (fault_of_file cause.MissingFile feed.Calendar)
either_calendar None (Some dates) = Ok ([], dates)
either_calendar (Some calendars) None = Ok (calendars, [])
either_calendar (Some calendars) (Some dates) = Ok (calendars, dates)

abbrev pub calendars_in : List ℕ → List FileEntry → Result (List CalendarRow × List DateRow) FeedFault
calendars_in path files = do
  calendars ← found_in calendar_kind path files
  dates ← found_in date_kind path files
  either_calendar calendars dates

-- The tables of a feed, or its first fault: file by file in the order of their numbers. Of `calendar.txt`
-- and `calendar_dates.txt` one may be missing, and `transfers.txt` and `frequencies.txt` may.
unfoldable pub tables_of : List ℕ → List FileEntry → Result Tables FeedFault
tables_of path files = do
  agencies ← required_in agency_kind path files
  stops ← required_in stop_kind path files
  routes ← required_in route_kind path files
  trips ← required_in trip_kind path files
  stop_times ← required_in stop_time_kind path files
  services ← calendars_in path files
  transfers ← optional_in transfer_kind path files
  frequencies ← optional_in frequency_kind path files
  Ok (record {
    agencies = agencies;
    stops = stops;
    routes = routes;
    trips = trips;
    stop_times = stop_times;
    calendars = services.0;
    dates = services.1;
    transfers = transfers;
    frequencies = frequencies;
  })
