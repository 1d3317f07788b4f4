-- What holds of every linked feed.
use Rattle.std.specs.Prelude.{◌≡◌, ◌≢◌, ℕ, ◌<◌, ◌≤◌, ◌^◌, length, Option, IfSome, count_by, nat_eq, Bool}
use Rattle.std.specs.List.{All, AllPairs}
use Rattle.otp_model.specs.Limits.{clock_end, most_plane, most_records}
use Rattle.otp_model.specs.Rows.{IsClock, IsWithin}
use Rattle.otp_model.specs.declared.links.TimeRow.{TimeRow}
use Rattle.otp_model.specs.declared.links.TransferRow.{TransferRow}
use Rattle.otp_model.specs.declared.timetable.Stop.{Stop}
use Rattle.otp_model.specs.declared.timetable.Trip.{Trip}
use Rattle.gtfs_links.specs.declared.feed.HeadwayRow.{HeadwayRow}
use Rattle.gtfs_links.specs.declared.feed.Linked.{Linked}

abbrev pub AreOtherStops : Stop → Stop → Type 0
AreOtherStops a b = a.id ≢ b.id

abbrev pub AreOtherTrips : Trip → Trip → Type 0
AreOtherTrips a b = a.id ≢ b.id

-- a number of one of so many records, if there is one
abbrev pub IsNumberOf : ℕ → Option ℕ → Type 0
IsNumberOf count number = IfSome number (λ n. n < count)

-- a stop whose parent is one of so many stops, with coordinates in range
pub record IsResolvedStop (stops : ℕ) (stop : Stop) : Type 0 where
  pub parent : IsNumberOf stops stop.parent
  pub x : IsWithin most_plane stop.x
  pub y : IsWithin most_plane stop.y

-- a call of one of so many trips at one of so many stops, with times of at most 999:59:59
pub record IsResolvedTime (stops trips : ℕ) (time : TimeRow) : Type 0 where
  pub stop : time.stop < stops
  pub trip : time.trip < trips
  pub seq : time.seq < 10 ^ 9
  pub arrival : IsClock time.arrival
  pub departure : IsClock time.departure

pub record IsResolvedTransfer (stops : ℕ) (row : TransferRow) : Type 0 where
  pub from : IsNumberOf stops row.from
  pub to : IsNumberOf stops row.to
  pub kind : row.kind ≤ 5
  pub minimum : row.minimum < 10 ^ 9

-- a row of `frequencies.txt` of one of so many trips: from one time of day to another, with some seconds from start to start
pub record IsResolvedHeadway (trips : ℕ) (row : HeadwayRow) : Type 0 where
  pub trip : row.trip < trips
  pub start : row.start < clock_end
  pub end : row.end < clock_end
  pub headway : (1 ≤ row.headway) × (row.headway < 10 ^ 6)

-- two calls of one trip have different sequences
abbrev pub AreOtherCalls : TimeRow → TimeRow → Type 0
AreOtherCalls a b = a.trip ≡ b.trip → a.seq ≢ b.seq

abbrev pub is_time_of : ℕ → TimeRow → Bool
is_time_of trip time = nat_eq trip time.trip

pub record IsResolved (linked : Linked) : Type 0 where
  pub few_stops : length linked.stops ≤ most_records
  pub few_trips : length linked.trips ≤ most_records
  pub few_times : length linked.times ≤ most_records
  pub few_transfers : length linked.transfers ≤ most_records
  pub few_headways : length linked.headways ≤ most_records
  pub few_passed : linked.passed ≤ 2 ^ 31
  pub stop_ids : AllPairs AreOtherStops linked.stops
  pub trip_ids : AllPairs AreOtherTrips linked.trips
  pub stops : All (IsResolvedStop (length linked.stops)) linked.stops
  pub times : All (IsResolvedTime (length linked.stops) (length linked.trips)) linked.times
  pub transfers : All (IsResolvedTransfer (length linked.stops)) linked.transfers
  pub headways : All (IsResolvedHeadway (length linked.trips)) linked.headways
  pub called : (trip : ℕ) → trip < length linked.trips → 2 ≤ count_by (is_time_of trip) linked.times
  pub calls : AllPairs AreOtherCalls linked.times
