-- A table: its header, and the rows under it.
use Rattle.std.specs.Prelude.{ℕ, ◌+◌, List, [], ◌∷◌, drop, Option, Some, None, unwrap_or, slice_index_or, nat_lt, if◌then◌else◌, Result, Ok, Err}
use Rattle.std.specs.Str.{bytes_eq, is_utf8}
use Rattle.csv.specs.Records.{field_at, fields_of}
use Rattle.gtfs_records.specs.Records.{Record}
use Rattle.gtfs_records.specs.Fields.{trim_spaces}
use Rattle.gtfs_records.specs.Faults.{each}
use Rattle.gtfs_records.specs.declared.fault.Fault.{Fault}
use Rattle.gtfs_records.specs.declared.row_cells.RowCells.{RowCells}
use Rattle.otp_base.specs.Results.{◌>>=◌}
use Rattle.otp_model.specs.declared.feed_fault.FeedCause.TheVariants as cause

-- the first field of the header that is this name
abbrev pub place_from : ℕ → List ℕ → Record → Option ℕ
place_from i name [] = None
place_from i name (field ∷ fields) = if bytes_eq (trim_spaces field) name then Some i else place_from (i + 1) name fields

-- the first `needed` columns must be there
abbrev pub may_lack : ℕ → ℕ → Option ℕ → Result (Option ℕ) Fault
may_lack needed column None = if nat_lt column needed then Err (record { cause = cause.MissingColumn; row = 0; column = column }) else Ok None
may_lack needed column (Some i) = Ok (Some i)

-- where the column of this number and name stands
abbrev pub column_at : ℕ → Record → ℕ → List ℕ → Result (Option ℕ) Fault
column_at needed header column name = may_lack needed column (place_from 0 name header)

-- the field at a place, without spaces at its ends; empty where the record has none
abbrev pub cell_in : Record → Option ℕ → List ℕ
cell_in fields None = []
cell_in fields (Some i) = trim_spaces (unwrap_or (field_at fields i) [])

-- the field of a column
abbrev pub cell_at : List (Option ℕ) → Record → ℕ → List ℕ
cell_at places fields column = cell_in fields (slice_index_or places column None)

abbrev pub cells : RowCells → ℕ → List ℕ
cells row column = cell_at row.places (fields_of row.record) column

abbrev pub accepted : {X : Type 0} → ℕ → ℕ → Option X → Result X Fault
accepted row column None = Err (record { cause = cause.BadField; row = row; column = column })
accepted row column (Some x) = Ok x

-- the cell of a column, which must be text
abbrev pub text_at : ℕ → (ℕ → List ℕ) → ℕ → Result (List ℕ) Fault
text_at row cells column = if is_utf8 (cells column) then Ok (cells column) else Err (record { cause = cause.NotUtf8; row = row; column = column })

-- what a field reader says of the cell of a column
abbrev pub read_cell : {X : Type 0} → (List ℕ → Option X) → ℕ → (ℕ → List ℕ) → ℕ → Result X Fault
read_cell reader row cells column = text_at row cells column >>= λ text. accepted row column (reader text)

-- what it says of the cell of a column of a record
abbrev pub read_of : {X : Type 0} → (List ℕ → Option X) → RowCells → ℕ → Result X Fault
read_of reader row column = read_cell reader row.row (cells row) column

-- the first record is the header
abbrev pub header_of : List Record → Record
header_of [] = []
header_of (header ∷ rows) = header

-- what the reader of a row says of a record
abbrev pub row_of : {X : Type 0} → (ℕ → (ℕ → List ℕ) → Result X Fault) → List (Option ℕ) → ℕ → Record → Result X Fault
row_of row_at places row fields = row_at row (cell_at places fields)

-- the rows of a table, or the first fault: the columns that must be there, then row by row from row 1 on
unfoldable pub table_of : {X : Type 0} → List (List ℕ) → ℕ → (ℕ → (ℕ → List ℕ) → Result X Fault) → List Record → Result (List X) Fault
table_of names needed row_at records = do
  places ← each (column_at needed (header_of records)) 0 names
  each (row_of row_at places) 1 (drop 1 records)
