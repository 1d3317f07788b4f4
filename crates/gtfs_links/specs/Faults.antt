-- The first fault of a file whose rows are judged one after the other, each beside the rows before it.
use Rattle.std.specs.Prelude.{◌≡◌, ℕ, ◌+◌, ◌<◌, List, [], ◌∷◌, ◌++◌, length, take, Option, Some, None, Result, Ok, Err, codes, slice_get}
use Rattle.otp_model.specs.FeedFaults.{fault_at}
use Rattle.otp_model.specs.declared.feed_fault.FeedCause.TheVariants as cause
use Rattle.otp_model.specs.declared.feed_fault.FeedFault.{FeedFault}
use Rattle.otp_model.specs.declared.feed_fault.FeedFault.TheVariants as fault
use Rattle.otp_model.specs.declared.feed_fault.FeedFile.{FeedFile}
use Rattle.gtfs_links.specs.declared.check.wrong.Column.{Column}
use Rattle.gtfs_links.specs.declared.check.wrong.Column.TheVariants as column
use Rattle.gtfs_links.specs.declared.check.wrong.Wrong.{Wrong}

abbrev pub name_of : Column → List ℕ
name_of column.AgencyTimezone = codes "agency_timezone"
name_of column.StopId = codes "stop_id"
name_of column.ParentStation = codes "parent_station"
name_of column.RouteId = codes "route_id"
name_of column.ServiceId = codes "service_id"
name_of column.TripId = codes "trip_id"
name_of column.StopSequence = codes "stop_sequence"
name_of column.Date = codes "date"
name_of column.FromStopId = codes "from_stop_id"
name_of column.ToStopId = codes "to_stop_id"
name_of column.StartTime = codes "start_time"

abbrev pub duplicate : Column → Wrong
duplicate column = record { cause = cause.Duplicate; column = column }

abbrev pub unknown : Column → Wrong
unknown column = record { cause = cause.UnknownRef; column = column }

abbrev pub other_zone : Wrong
other_zone = record { cause = cause.ZonesDiffer; column = column.AgencyTimezone }

-- the fault of a row of a file; the header is row 0
abbrev pub fault_of_row : FeedFile → ℕ → Wrong → FeedFault
fault_of_row file row wrong = fault_at wrong.cause file row (name_of wrong.column)

-- the fault of a row, else the later one
abbrev pub fault_or : FeedFile → ℕ → Option Wrong → Option FeedFault → Option FeedFault
fault_or file row None later = later
fault_or file row (Some wrong) later = Some (fault_of_row file row wrong)

-- The fault of the first row with which something is wrong, by a rule on the rows before it and the row.
-- Rows count from 1.
unfoldable pub first_wrong : {R : Type 0} → FeedFile → (List R → R → Option Wrong) → List R → List R → Option FeedFault
first_wrong file rule before [] = None
first_wrong file rule before (row ∷ rows) = fault_or file (length before + 1) (rule before row) (first_wrong file rule (before ++ row ∷ []) rows)

-- nothing is wrong with the rows before this place
abbrev pub AreFineBefore : {R : Type 0} → (List R → R → Option Wrong) → List R → ℕ → Type 0
AreFineBefore {R} rule rows place = (k : ℕ) (row : R) → k < place → slice_get rows k ≡ Some row → rule (take k rows) row ≡ None

-- what is wrong with the row at this place, where nothing is with those before it
abbrev pub Judges : {R : Type 0} → (List R → R → Option Wrong) → List R → ℕ → Option Wrong → Type 0
Judges {R} rule rows place wrong = AreFineBefore rule rows place → (row : R) → slice_get rows place ≡ Some row → wrong ≡ rule (take place rows) row

-- the first of two faults, if there is one
abbrev pub first_of : Option FeedFault → Option FeedFault → Option FeedFault
first_of None later = later
first_of (Some fault) later = Some fault

abbrev pub FindsAs : FeedFault → Option FeedFault → Type 0
FindsAs (fault.At c f r column) found = found ≡ Some (fault.At c f r column)
FindsAs fault.Read found = ⊥
FindsAs fault.Memory found = Unit {0}

-- a check that passed found no fault, and one that failed gives the fault, unless memory ran out
abbrev pub Finds : {X : Type 0} → Result X FeedFault → Option FeedFault → Type 0
Finds (Ok x) found = found ≡ None
Finds (Err e) found = FindsAs e found
