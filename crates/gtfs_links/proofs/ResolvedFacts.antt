-- What holds of the feed of tables without a fault.
use Rattle.std.proofs.Common.{◌≡◌, ℕ, ◌+◌, ◌≤◌, List, [], ◌∷◌, length, map, get_or, suc, zero, Bool, true, false, cond, not, ◌&&◌, Option, None, Some, refl, sym, subst, ◌∙◌, arith, length-append, ℤ, pos, negsuc, ◌*ℤ◌, ◌*◌, ◌^◌, lit≤}
use Rattle.std.specs.Int.{int_div_euclid}
use Rattle.std.specs.Option.{option_to_list}
use Rattle.std.specs.Prelude.{if◌then◌else◌}
use Rattle.std.specs.List.{All, AllPairs, filter, list_any}
use Rattle.std.proofs.lemmas.Int.{ints}
use Rattle.std.proofs.lemmas.List.{length-map}
use Rattle.std.proofs.lemmas.List.Elements.{All-append, All-cons, All-head, All-map, All-nil, All-tail}
use Rattle.std.proofs.lemmas.List.Kept.{AllPairs-cons, AllPairs-filter}
use Rattle.std.proofs.lemmas.List.Sums.{count_by-le-length, length-filter}
use Rattle.name_index.proofs.SightFacts.{place-below}
use Rattle.otp_model.proofs.Lengths.{scaled_within, thousandth_within, wider}
use Rattle.otp_model.specs.Rows.{AreTables, IsFrequencyRow, IsStopTimeRow, IsWithin}
use Rattle.otp_model.specs.Sights.{has_name, place_of}
use Rattle.otp_model.specs.declared.links.TimeRow.{TimeRow}
use Rattle.otp_model.specs.declared.tables.StopRow.{StopRow}
use Rattle.otp_model.specs.declared.tables.StopTimeRow.{StopTimeRow}
use Rattle.otp_model.specs.declared.tables.Tables.{Tables}
use Rattle.otp_model.specs.declared.tables.TransferLine.{TransferLine}
use Rattle.otp_model.specs.declared.tables.FrequencyRow.{FrequencyRow}
use Rattle.otp_model.specs.declared.feed_fault.FeedFile.TheVariants as file
use Rattle.gtfs_links.specs.declared.check.wrong.Column.TheVariants as column
use Rattle.gtfs_links.specs.declared.check.wrong.Wrong.{Wrong}
use Rattle.gtfs_links.specs.Faults.{duplicate, unknown}
use Rattle.gtfs_links.specs.Linked.{IsOtherTrip, fault_of, feed_of, headway_at, headways_of, is_headway_of, is_kept, is_unnamed, kept_ids, kept_trips, number_if, stop_at, stop_ids, time_at, time_if, times_from, transfer_at, trip_ids}
use Rattle.gtfs_links.specs.Resolved.{AreOtherStops, AreOtherTrips, IsNumberOf, IsResolved, IsResolvedHeadway, IsResolvedStop, IsResolvedTime, IsResolvedTransfer}
use Rattle.gtfs_links.specs.Rules.{id_of_stop, id_of_trip, is_empty, is_same_call, is_unknown, stop_rule, stop_wrong, time_rule, transfer_rule, transfer_wrong}
use Rattle.gtfs_links.proofs.CalledFacts.{IsApartFrom, called_twice, calls_apart, none_same}
use Rattle.gtfs_links.proofs.DistinctFacts.{each_fine, rows_related}
use Rattle.gtfs_links.proofs.RuleFacts.{call_none, call_placed}
use Rattle.gtfs_links.proofs.FeedFacts.{none_of_stops, none_of_times, none_of_transfers, stops_apart, trips_apart}

-- a column with a value that isn't unknown
cond_none : (b : Bool) (w : Wrong) (later : Option Wrong) → cond b (Some w) later ≡ None → b ≡ false
cond_none true w later h = cc h
cond_none false w later h = refl

cond_later : (b : Bool) (w : Wrong) (later : Option Wrong) → cond b (Some w) later ≡ None → later ≡ None
cond_later true w later h = cc h
cond_later false w later h = h

stop_fine : (repeated : Bool) (known : List ℕ → Bool) (row : StopRow) → stop_wrong repeated known row ≡ None → is_unknown known row.parent_station ≡ false
stop_fine repeated known row h = cond_none _ (unknown column.ParentStation) None (cond_later repeated (duplicate column.StopId) _ h)

from_fine : (stops : List ℕ → Bool) (row : TransferLine) → transfer_wrong stops row ≡ None → is_unknown stops row.from_stop_id ≡ false
from_fine stops row h = cond_none _ (unknown column.FromStopId) _ h

to_fine : (stops : List ℕ → Bool) (row : TransferLine) → transfer_wrong stops row ≡ None → is_unknown stops row.to_stop_id ≡ false
to_fine stops row h = cond_none _ (unknown column.ToStopId) None (cond_later (is_unknown stops row.from_stop_id) (unknown column.FromStopId) _ h)

-- a number stands for a record
number_of : (ids : List (List ℕ)) (id : List ℕ) → is_unknown (has_name ids) id ≡ false → IsNumberOf (length ids) (number_if ids id)
number_of ids id h = by (is_empty id) (has_name ids id) refl h
  where
    by : (empty known : Bool) → has_name ids id ≡ known → (not empty && not known) ≡ false → IsNumberOf (length ids) (if empty then None else Some (place_of ids id))
    by true known e f = tt
    by false true e f = place-below ids id e
    by false false e f = cc f

-- a length of so many millionths of a degree is in range
length_within : (degrees : ℤ) (scale : ℕ) → IsWithin 180000000 degrees → scale ≤ 111195 → IsWithin (2 ^ 40) (int_div_euclid (degrees *ℤ pos scale) (pos 1000))
length_within degrees scale d s =
    thousandth_within (2 ^ 40) (degrees *ℤ pos scale) (wider (180000000 * 111195) (1000 * 2 ^ 40) (degrees *ℤ pos scale) (lit≤ tt) (scaled_within 180000000 111195 degrees scale d s))

pairs_map : {X Y : Type 0} (f : X → Y) (R : Y → Y → Type 0) (xs : List X) → AllPairs (λ (a b : X). R (f a) (f b)) xs → AllPairs R (map f xs)
pairs_map f R [] h = λ i j d l m. absurd (omega (arith, m))
pairs_map f R (x ∷ xs) h =
    AllPairs-cons R (f x) (map f xs) (All-map (R (f x)) f xs (λ k d l. h zero (suc k) d (omega arith) (omega (arith, l))))
    (pairs_map f R xs (λ i j d l m. h (suc i) (suc j) d (omega (arith, l)) (omega (arith, m))))

module _ (stops : List StopRow) (ids trips : List (List ℕ)) where
  -- a row's time, if it is one of the trips'
  one_time : (n : ℕ) (row : StopTimeRow) → IsStopTimeRow row → is_unknown (has_name ids) row.stop_id ≡ false → All (IsResolvedTime (length ids) (length trips)) (option_to_list (time_if stops ids trips n row))
  one_time n row read h = by (is_empty row.stop_id) (has_name ids row.stop_id) refl (has_name trips row.trip_id) refl h
    where
      by : (empty known : Bool) → has_name ids row.stop_id ≡ known → (kept : Bool) → has_name trips row.trip_id ≡ kept → (not empty && not known) ≡ false
          → All (IsResolvedTime (length ids) (length trips)) (option_to_list (if not empty && kept then Some (time_at stops ids trips n row) else None))
      by true known e kept k f = All-nil (IsResolvedTime (length ids) (length trips))
      by false known e false k f = All-nil (IsResolvedTime (length ids) (length trips))
      by false true e true k f = All-cons (IsResolvedTime (length ids) (length trips)) _ [] (record {
        stop = place-below ids row.stop_id e;
        trip = place-below trips row.trip_id k;
        seq = read.sequence;
        arrival = read.arrival;
        departure = read.departure;
      }) (All-nil (IsResolvedTime (length ids) (length trips)))
      by false false e true k f = cc f

  pub times_resolved : (n : ℕ) (rows : List StopTimeRow) → All IsStopTimeRow rows → All (λ (row : StopTimeRow). is_unknown (has_name ids) row.stop_id ≡ false) rows
      → All (IsResolvedTime (length ids) (length trips)) (times_from stops ids trips n rows)
  unfolding times_from
  times_resolved n [] read fine = All-nil (IsResolvedTime (length ids) (length trips))
  times_resolved n (row ∷ rows) read fine =
      All-append (IsResolvedTime (length ids) (length trips)) (option_to_list (time_if stops ids trips n row)) (times_from stops ids trips (n + 1) rows)
      (one_time n row (All-head IsStopTimeRow row rows read) (All-head (λ (r : StopTimeRow). is_unknown (has_name ids) r.stop_id ≡ false) row rows fine))
      (times_resolved (n + 1) rows (All-tail IsStopTimeRow row rows read) (All-tail (λ (r : StopTimeRow). is_unknown (has_name ids) r.stop_id ≡ false) row rows fine))

  few_one : (o : Option TimeRow) → length (option_to_list o) ≤ 1
  few_one None = omega arith
  few_one (Some time) = omega arith

  pub times_few : (n : ℕ) (rows : List StopTimeRow) → length (times_from stops ids trips n rows) ≤ length rows
  unfolding times_from
  times_few n [] = omega arith
  times_few n (row ∷ rows) =
      omega (arith, times_few (n + 1) rows, few_one (time_if stops ids trips n row), length-append (option_to_list (time_if stops ids trips n row)) (times_from stops ids trips (n + 1) rows))

-- the headways of some trips are theirs
pub headways_resolved : (trips : List (List ℕ)) (rows : List FrequencyRow) → All IsFrequencyRow rows → All (IsResolvedHeadway (length trips)) (headways_of trips rows)
headways_resolved trips [] read = All-nil (IsResolvedHeadway (length trips))
headways_resolved trips (row ∷ rows) read = by (has_name trips row.trip_id) refl (headways_resolved trips rows (All-tail IsFrequencyRow row rows read))
  where
    by : (b : Bool) → has_name trips row.trip_id ≡ b → All (IsResolvedHeadway (length trips)) (headways_of trips rows)
        → All (IsResolvedHeadway (length trips)) (map (headway_at trips) (cond b (row ∷ filter (is_headway_of trips) rows) (filter (is_headway_of trips) rows)))
    by false e more = more
    by true e more =
        let own = All-head IsFrequencyRow row rows read in
        All-cons (IsResolvedHeadway (length trips)) (headway_at trips row) (headways_of trips rows) (record { trip = place-below trips row.trip_id e; start = own.start; end = own.end; headway = own.headway }) more

pub headways_few : (trips : List (List ℕ)) (rows : List FrequencyRow) → length (headways_of trips rows) ≤ length rows
headways_few trips rows =
    omega (arith, length-map (filter (is_headway_of trips) rows) (headway_at trips), length-filter (is_headway_of trips) rows, count_by-le-length (is_headway_of trips) rows)

module _ (zone : List ℕ) (tables : Tables) (scale : ℕ) (read : AreTables tables) (fine : fault_of zone tables ≡ None) (small : scale ≤ 111195) where
  known : List ℕ → Bool
  known = has_name (stop_ids tables)

  count : length (stop_ids tables) ≡ length (feed_of scale tables).stops
  count = length-map tables.stops id_of_stop ∙ sym (length-map tables.stops (stop_at scale (stop_ids tables)))

  kept_count : length (kept_ids tables) ≡ length (feed_of scale tables).trips
  kept_count = length-map (kept_trips tables) id_of_trip ∙ sym (length-map (kept_trips tables) _)

  few_kept_rows : length (kept_trips tables) ≤ length tables.trips
  few_kept_rows = omega (arith, length-filter (is_kept tables.stop_times) tables.trips, count_by-le-length (is_kept tables.stop_times) tables.trips)

  placed : All (λ (row : StopTimeRow). is_unknown (has_name (stop_ids tables)) row.stop_id ≡ false) tables.stop_times
  placed =
      each_fine file.StopTimes (time_rule (has_name (trip_ids tables)) (has_name (stop_ids tables))) (λ (row : StopTimeRow). is_unknown (has_name (stop_ids tables)) row.stop_id ≡ false)
      (λ before row h. call_placed (list_any (is_same_call row) before) (has_name (trip_ids tables) row.trip_id) (is_unknown (has_name (stop_ids tables)) row.stop_id) h) [] tables.stop_times (none_of_times zone tables fine)

  stop_resolved : All (IsResolvedStop (length (stop_ids tables))) (feed_of scale tables).stops
  stop_resolved = All-map (IsResolvedStop (length (stop_ids tables))) (stop_at scale (stop_ids tables)) tables.stops (λ k d l.
      let row = read.stops.each k d l in
      let parents = each_fine file.Stops (stop_rule (has_name (stop_ids tables))) (λ (r : StopRow). is_unknown (has_name (stop_ids tables)) r.parent_station ≡ false)
      (λ before r h. stop_fine _ (has_name (stop_ids tables)) r h) [] tables.stops (none_of_stops zone tables fine) in
      record {
        parent = number_of (stop_ids tables) (get_or tables.stops k d).parent_station (parents k d l);
        x = length_within _ scale row.lon small;
        y = length_within _ 111195 (wide _ row.lat) (omega arith);
      })
    where
      wide : (z : ℤ) → IsWithin 90000000 z → IsWithin 180000000 z
      wide (pos a) h = record { low = omega (arith, ints, h.high); high = omega (arith, ints, h.high) }
      wide (negsuc a) h = record { low = omega (arith, ints, h.low); high = omega (arith, ints, h.low) }

  pub feed_resolved : IsResolved (feed_of scale tables)
  feed_resolved = record {
    few_stops = omega (arith, read.stops.few, length-map tables.stops (stop_at scale (stop_ids tables)));
    few_trips = omega (arith, read.trips.few, few_kept_rows, length-map (kept_trips tables) id_of_trip, kept_count);
    few_times = omega (arith, read.stop_times.few, times_few tables.stops (stop_ids tables) (kept_ids tables) 1 tables.stop_times);
    few_transfers = omega (arith, read.transfers.few, length-map tables.transfers (transfer_at (stop_ids tables)));
    few_headways = omega (arith, read.frequencies.few, headways_few (kept_ids tables) tables.frequencies);
    few_passed = omega (arith, read.stop_times.few, read.trips.few, count_by-le-length is_unnamed tables.stop_times);
    stop_ids = pairs_map (stop_at scale (stop_ids tables)) AreOtherStops tables.stops (stops_apart zone tables fine);
    trip_ids = pairs_map _ AreOtherTrips (kept_trips tables) (AllPairs-filter IsOtherTrip (is_kept tables.stop_times) tables.trips (trips_apart zone tables fine));
    stops = subst (λ (n : ℕ). All (IsResolvedStop n) (feed_of scale tables).stops) count stop_resolved;
    times = subst (λ (n : ℕ). All (IsResolvedTime n (length (feed_of scale tables).trips)) (feed_of scale tables).times) count
        (subst (λ (n : ℕ). All (IsResolvedTime (length (stop_ids tables)) n) (feed_of scale tables).times) kept_count
        (times_resolved tables.stops (stop_ids tables) (kept_ids tables) 1 tables.stop_times read.stop_times.each placed));
    transfers = subst (λ (n : ℕ). All (IsResolvedTransfer n) (feed_of scale tables).transfers) count
        (All-map (IsResolvedTransfer (length (stop_ids tables))) (transfer_at (stop_ids tables)) tables.transfers (λ k d l. record {
          from = number_of (stop_ids tables) (get_or tables.transfers k d).from_stop_id
              (each_fine file.Transfers (transfer_rule (has_name (stop_ids tables))) (λ (r : TransferLine). is_unknown (has_name (stop_ids tables)) r.from_stop_id ≡ false) (λ before r h. from_fine (has_name (stop_ids tables)) r h) []
              tables.transfers (none_of_transfers zone tables fine) k d l);
          to = number_of (stop_ids tables) (get_or tables.transfers k d).to_stop_id
              (each_fine file.Transfers (transfer_rule (has_name (stop_ids tables))) (λ (r : TransferLine). is_unknown (has_name (stop_ids tables)) r.to_stop_id ≡ false) (λ before r h. to_fine (has_name (stop_ids tables)) r h) []
              tables.transfers (none_of_transfers zone tables fine) k d l);
          kind = (read.transfers.each k d l).kind;
          minimum = (read.transfers.each k d l).minimum;
        }));
    headways = subst (λ (n : ℕ). All (IsResolvedHeadway n) (feed_of scale tables).headways) kept_count (headways_resolved (kept_ids tables) tables.frequencies read.frequencies.each);
    called = λ k l.
        called_twice tables.stops (stop_ids tables) tables.stop_times tables.trips (AllPairs-filter IsOtherTrip (is_kept tables.stop_times) tables.trips (trips_apart zone tables fine)) k
        (omega (arith, l, kept_count, length-map (kept_trips tables) id_of_trip));
    calls = calls_apart tables.stops (stop_ids tables) (kept_ids tables) 1 tables.stop_times
        (rows_related IsApartFrom file.StopTimes (time_rule (has_name (trip_ids tables)) (has_name (stop_ids tables)))
        (λ before r h. none_same r before (call_none (list_any (is_same_call r) before) (has_name (trip_ids tables) r.trip_id) (is_unknown (has_name (stop_ids tables)) r.stop_id) h)) [] tables.stop_times (λ i j d l m. absurd (omega (arith, m)))
        (none_of_times zone tables fine));
  }
