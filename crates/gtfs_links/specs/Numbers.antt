-- What the rows of the files name, by number.
use Rattle.std.specs.Prelude.{◌≡◌, ℕ, ℤ, pos, List}
use Rattle.otp_model.specs.declared.tables.DateRow.{DateRow}
use Rattle.otp_model.specs.declared.tables.FrequencyRow.{FrequencyRow}
use Rattle.otp_model.specs.declared.tables.StopTimeRow.{StopTimeRow}
use Rattle.otp_model.specs.declared.tables.Tables.{Tables}
use Rattle.gtfs_links.specs.Index.{service_of_date, stop_of_time, trip_of_frequency, trip_of_time}
use Rattle.gtfs_links.specs.Keys.{IsFirstRepeat, is_same_key, numbers_in}
use Rattle.gtfs_links.specs.declared.indexes.Indexes.{Indexes}
use Rattle.gtfs_links.specs.declared.numbers.Numbers.{Numbers}

abbrev pub sequence_of : StopTimeRow → ℤ
sequence_of row = pos row.stop_sequence

abbrev pub date_of : DateRow → ℤ
date_of row = row.date

abbrev pub start_of : FrequencyRow → ℤ
start_of row = pos row.start_time

pub record AreNumbered (tables : Tables) (indexes : Indexes) (numbers : Numbers) : Type 0 where
  pub trips : numbers.trips ≡ numbers_in indexes.trips trip_of_time tables.stop_times
  pub stops : numbers.stops ≡ numbers_in indexes.stops stop_of_time tables.stop_times
  pub services : numbers.services ≡ numbers_in indexes.services service_of_date tables.dates
  pub frequencies : numbers.frequencies ≡ numbers_in indexes.trips trip_of_frequency tables.frequencies

-- what is known of the rows of `stop_times.txt`: the numbers of their trips and stops, and the first that
-- has the key of an earlier one
pub record KnowsTimes (indexes : Indexes) (trips stops : List ℕ) (first : ℕ) (rows : List StopTimeRow) : Type 0 where
  pub trips_are : trips ≡ numbers_in indexes.trips trip_of_time rows
  pub stops_are : stops ≡ numbers_in indexes.stops stop_of_time rows
  pub repeat : IsFirstRepeat (is_same_key indexes.trips trip_of_time sequence_of) rows first

-- the same of `frequencies.txt`
pub record KnowsFrequencies (indexes : Indexes) (trips : List ℕ) (first : ℕ) (rows : List FrequencyRow) : Type 0 where
  pub trips_are : trips ≡ numbers_in indexes.trips trip_of_frequency rows
  pub repeat : IsFirstRepeat (is_same_key indexes.trips trip_of_frequency start_of) rows first
