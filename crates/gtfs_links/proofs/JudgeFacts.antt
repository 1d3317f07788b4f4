-- Whether a row has the key of an earlier one, where nothing is wrong with the rows before it.
use Rattle.std.proofs.Common.{◌≡◌, ℕ, ◌<◌, length, take, get_or, List, Some, sym, ◌∙◌}
use Rattle.std.specs.Prelude.{nat_le, nat_lt, slice_get}
use Rattle.std.specs.List.{All, list_any}
use Rattle.std.proofs.lemmas.List.Elements.{All-take}
use Rattle.std.proofs.lemmas.Option.{get_or_from_slice_get}
use Rattle.otp_model.specs.Sights.{has_name}
use Rattle.otp_model.specs.declared.tables.DateRow.{DateRow}
use Rattle.otp_model.specs.declared.tables.FrequencyRow.{FrequencyRow}
use Rattle.otp_model.specs.declared.tables.StopTimeRow.{StopTimeRow}
use Rattle.gtfs_links.specs.declared.check.wrong.Column.TheVariants as column
use Rattle.gtfs_links.specs.declared.indexes.Indexes.{Indexes}
use Rattle.gtfs_links.specs.Faults.{AreFineBefore}
use Rattle.gtfs_links.specs.Index.{HasId, service_of_date, trip_of_frequency, trip_of_time}
use Rattle.gtfs_links.specs.Keys.{IsFirstRepeat, is_same_key, numbers_in}
use Rattle.gtfs_links.specs.Numbers.{date_of, KnowsFrequencies, KnowsTimes, sequence_of, start_of}
use Rattle.gtfs_links.specs.Rules.{date_rule, frequency_rule, is_same_call, is_same_date, is_same_start, is_unknown, time_rule}
use Rattle.gtfs_links.proofs.KeyFacts.{any_same, dates_agree, has_place, number_is, starts_agree, times_agree}
use Rattle.gtfs_links.proofs.RepeatFacts.{repeat_placed, repeat_told}
use Rattle.gtfs_links.proofs.RuleFacts.{call_known, call_none, repeat_none, start_known, start_none}

-- the row that an index reads
pub row_is : {R : Type 0} (rows : List R) (i : ℕ) (read row : R) → read ≡ get_or rows i read → slice_get rows i ≡ Some row → read ≡ row
row_is rows i read row is at = is ∙ get_or_from_slice_get rows i row read at

-- the number of what a row names tells whether that is there
pub number_told : {R : Type 0} (names : List (List ℕ)) (id_of : R → List ℕ) (numbers : List ℕ) (rows : List R) (i : ℕ) (row : R) → numbers ≡ numbers_in names id_of rows → i < length rows → slice_get rows i ≡ Some row
    → nat_lt (get_or numbers i 0) (length names) ≡ has_name names (id_of row)
number_told names id_of numbers rows i row h l at = rw (number_is names id_of numbers rows i row h l (sym (get_or_from_slice_get rows i row row at))) (has_place names (id_of row))

pub call_repeats : (ix : Indexes) (trips stops : List ℕ) (first : ℕ) (rows : List StopTimeRow) → KnowsTimes ix trips stops first rows
    → (i : ℕ) (row : StopTimeRow) → i < length rows → slice_get rows i ≡ Some row → AreFineBefore (time_rule (has_name ix.trips) (has_name ix.stops)) rows i
    → nat_le first i ≡ list_any (is_same_call row) (take i rows)
call_repeats ix trips stops first rows h i row l at fine =
    repeat_told ix.trips trip_of_time sequence_of rows is_same_call (times_agree ix.trips) first h.repeat i row l at
    (λ k other less here. call_known (list_any (is_same_call other) (take k rows)) (has_name ix.trips other.trip_id) (is_unknown (has_name ix.stops) other.stop_id) (fine k other less here))
    (λ k other less here. call_none (list_any (is_same_call other) (take k rows)) (has_name ix.trips other.trip_id) (is_unknown (has_name ix.stops) other.stop_id) (fine k other less here))

pub start_repeats : (ix : Indexes) (trips : List ℕ) (first : ℕ) (rows : List FrequencyRow) → KnowsFrequencies ix trips first rows
    → (i : ℕ) (row : FrequencyRow) → i < length rows → slice_get rows i ≡ Some row → AreFineBefore (frequency_rule (has_name ix.trips)) rows i
    → nat_le first i ≡ list_any (is_same_start row) (take i rows)
start_repeats ix trips first rows h i row l at fine =
    repeat_told ix.trips trip_of_frequency start_of rows is_same_start (starts_agree ix.trips) first h.repeat i row l at
    (λ k other less here. start_known (list_any (is_same_start other) (take k rows)) (has_name ix.trips other.trip_id) (fine k other less here))
    (λ k other less here. start_none (list_any (is_same_start other) (take k rows)) (has_name ix.trips other.trip_id) (fine k other less here))

pub date_repeats : (first : ℕ) (rows : List DateRow) → IsFirstRepeat is_same_date rows first → (i : ℕ) (row : DateRow) → i < length rows → slice_get rows i ≡ Some row → AreFineBefore date_rule rows i
    → nat_le first i ≡ list_any (is_same_date row) (take i rows)
date_repeats first rows h i row l at fine = repeat_placed is_same_date rows first h i row l at (λ k other less here. repeat_none column.Date (list_any (is_same_date other) (take k rows)) (fine k other less here))

-- the first date that repeats another by its numbers does by its texts
pub first_date : (services : List (List ℕ)) (rows : List DateRow) (first : ℕ) → All (HasId services service_of_date) rows → IsFirstRepeat (is_same_key services service_of_date date_of) rows first → IsFirstRepeat is_same_date rows first
first_date services rows first known h = record {
  apart = λ k row less at. sym (by_texts k row) ∙ h.apart k row less at;
  repeated = λ row at. sym (by_texts first row) ∙ h.repeated row at;
}
  where
    by_texts : (n : ℕ) (row : DateRow) → list_any (is_same_key services service_of_date date_of row) (take n rows) ≡ list_any (is_same_date row) (take n rows)
    by_texts n row = any_same services service_of_date date_of is_same_date (dates_agree services) row (take n rows) (All-take (HasId services service_of_date) n rows known)
