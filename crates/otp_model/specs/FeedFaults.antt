-- The faults of a feed: the numbers of their causes, which are this project's own, and of its files, and the files'
-- names (GTFS Schedule reference, "Dataset Files"). No cause has the number 6 or 12.
use Rattle.std.specs.Prelude.{◌≡◌, ℕ, List, [], Option, None, Some, codes}
use Rattle.otp_model.specs.declared.feed_fault.FeedCause.{FeedCause}
use Rattle.otp_model.specs.declared.feed_fault.FeedCause.TheVariants as cause
use Rattle.otp_model.specs.declared.feed_fault.FeedFault.{FeedFault}
use Rattle.otp_model.specs.declared.feed_fault.FeedFault.TheVariants as fault
use Rattle.otp_model.specs.declared.feed_fault.FeedFile.{FeedFile}
use Rattle.otp_model.specs.declared.feed_fault.FeedFile.TheVariants as file

abbrev pub cause_number : FeedCause → ℕ
cause_number cause.MissingFile = 1
cause_number cause.MissingColumn = 2
cause_number cause.NotUtf8 = 3
cause_number cause.BadField = 4
cause_number cause.TooLarge = 5
cause_number cause.Duplicate = 7
cause_number cause.UnknownRef = 8
cause_number cause.ZonesDiffer = 9
cause_number cause.NoTimes = 10
cause_number cause.TimesFall = 11
cause_number cause.TooMany = 13

abbrev pub file_number : FeedFile → ℕ
file_number file.Agency = 1
file_number file.Stops = 2
file_number file.Routes = 3
file_number file.Trips = 4
file_number file.StopTimes = 5
file_number file.Calendar = 6
file_number file.CalendarDates = 7
file_number file.Transfers = 8
file_number file.Frequencies = 9

abbrev pub file_name : FeedFile → List ℕ
file_name file.Agency = codes "agency.txt"
file_name file.Stops = codes "stops.txt"
file_name file.Routes = codes "routes.txt"
file_name file.Trips = codes "trips.txt"
file_name file.StopTimes = codes "stop_times.txt"
file_name file.Calendar = codes "calendar.txt"
file_name file.CalendarDates = codes "calendar_dates.txt"
file_name file.Transfers = codes "transfers.txt"
file_name file.Frequencies = codes "frequencies.txt"

-- the fault of a row of a file, in a column; the header is row 0, and so is the whole file, with no column
abbrev pub fault_at : FeedCause → FeedFile → ℕ → List ℕ → FeedFault
fault_at c f row column = fault.At (cause_number c) (file_number f) row column

abbrev pub fault_of_file : FeedCause → FeedFile → FeedFault
fault_of_file c f = fault_at c f 0 []

-- what an answer tells of a feed: nothing where a read or memory failed
abbrev pub told_of : FeedFault → Option FeedFault
told_of (fault.At c f row column) = Some (fault.At c f row column)
told_of fault.Read = None
told_of fault.Memory = None

-- this fault, unless memory ran out
abbrev pub IsFault : FeedFault → FeedFault → Type 0
IsFault (fault.At c f row column) found = found ≡ fault.At c f row column
IsFault fault.Read found = ⊥
IsFault fault.Memory found = Unit {0}
