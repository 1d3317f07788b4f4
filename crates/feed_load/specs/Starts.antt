-- When the trips of `frequencies.txt` start (GTFS Schedule reference, `frequencies.txt`): at the start of each row and
-- then after every headway, as long as it is before the row's end. Times are seconds of the service day.
use Rattle.std.specs.Prelude.{◌≡◌, ℕ, ◌+◌, ◌-◌, ◌*◌, ◌%◌, ◌<◌, ◌≤◌, List, [], ◌∷◌, map, Option, None, Some, Bool, ◌&&◌, nat_eq, nat_le, nat_lt}
use Rattle.std.specs.List.{Contains, filter, list_any, range_with_len}
use Rattle.otp_model.specs.Limits.{clock_end}
use Rattle.gtfs_links.specs.declared.feed.HeadwayRow.{HeadwayRow}
use Rattle.feed_load.specs.ByTrip.{rows_by}

-- the time is the start of the row and so many headways, and before its end
pub record IsStartOf (row : HeadwayRow) (time : ℕ) : Type 0 where
  pub turns : ℕ
  pub is : time ≡ row.start + turns * row.headway
  pub before : time < row.end

-- it is a start of one of the rows
abbrev pub IsStart : List HeadwayRow → ℕ → Type 0
IsStart rows time = (row : HeadwayRow) × Contains rows row × IsStartOf row time

-- the test of it: the time is no earlier than the row's start, before its end, and whole headways behind its start
abbrev pub is_start_of : ℕ → HeadwayRow → Bool
is_start_of time row = nat_le row.start time && (nat_lt time row.end && nat_eq ((time - row.start) % row.headway) 0)

abbrev pub is_start : List HeadwayRow → ℕ → Bool
is_start rows time = list_any (is_start_of time) rows

-- the starts of the rows, rising and each once: the times of the clock that pass
unfoldable pub starts_in : List HeadwayRow → List ℕ
starts_in rows = filter (is_start rows) (range_with_len 0 clock_end)

-- a trip with no row runs once a day, without a start; one with rows at each start of theirs
abbrev pub starts_by : List HeadwayRow → List (Option ℕ)
starts_by [] = None ∷ []
starts_by (row ∷ rows) = map (λ start. Some start) (starts_in (row ∷ rows))

abbrev pub trip_of_headway : HeadwayRow → ℕ
trip_of_headway row = row.trip

-- the starts of a trip on each day of its service
abbrev pub starts_of : List HeadwayRow → ℕ → List (Option ℕ)
starts_of headways trip = starts_by (rows_by trip_of_headway headways trip)

-- a row whose end is at most the end of the marked times, and whose headway is some time
pub record IsHeadway (times : ℕ) (row : HeadwayRow) : Type 0 where
  pub end : row.end ≤ times
  pub headway : 0 < row.headway
