-- The rows of each trip, one trip after the other.
use Rattle.std.proofs.Common.{◌≡◌, ℕ, ◌<◌, ◌≤◌, ◌≢◌, Bool, List, [], length, get_or, sym, subst, ◌∙◌, arith}
use Rattle.std.specs.List.{AllPairs, filter}
use Rattle.std.proofs.lemmas.Bool.{eqb-true}
use Rattle.std.proofs.lemmas.List.Elements.{All-filter, filter_passes}
use Rattle.std.proofs.lemmas.List.Kept.{AllPairs-filter}
use Rattle.std.proofs.lemmas.List.Sums.{length-filter, count_by-le-length}
use Rattle.gtfs_links.specs.Resolved.{is_time_of}
use Rattle.otp_model.specs.declared.links.TimeRow.{TimeRow}
use Rattle.otp_base.specs.EachAt.{EachAt}
use Rattle.feed_load.specs.Calls.{rows_of}
use Rattle.feed_load.specs.Anchors.{AreRows, HasClocks}
use Rattle.feed_load.specs.Trips.{AreTripRows, HasFault, IsFirstFault, IsTripFaultOf, IsTripOf}
use Rattle.feed_load.specs.declared.trip_calls.TripFault.{TripFault}
use Rattle.feed_load.specs.declared.trip_calls.TripFault.TheVariants as fault
use Rattle.otp_model.specs.declared.timetable.Call.{Call}
use Rattle.otp_base.proofs.EachAtLemmas.{each_read}

filter_shorter : (p : TimeRow → Bool) (rows : List TimeRow) → length (filter p rows) ≤ length rows
filter_shorter p rows = omega (arith, length-filter p rows, count_by-le-length p rows)

-- the rows of a trip, of rows that suit
pub rows_suit : (trips : ℕ) (times rows : List TimeRow) (trip : ℕ) → AreTripRows trips times → trip < trips → rows ≡ rows_of times trip
    → (0 < length rows) × AreRows rows × AllPairs (λ (a : TimeRow) (b : TimeRow). a.seq ≢ b.seq) rows
rows_suit trips times rows trip are less is = rw is (
  are.some trip less,
  record {
    few = omega (arith, are.few, filter_shorter is_its times);
    clocks = All-filter is_its HasClocks times are.clocks;
  },
  λ i j d before within.
      AllPairs-filter (λ (a : TimeRow) (b : TimeRow). a.trip ≡ b.trip → a.seq ≢ b.seq) is_its times are.distinct i j d before within
      (its i d (omega (arith, before, within)) ∙ sym (its j d within)),
)
  where
    is_its : TimeRow → Bool
    is_its row = is_time_of trip row

    its : (k : ℕ) (d : TimeRow) → k < length (filter is_its times) → (get_or (filter is_its times) k d).trip ≡ trip
    its k d within = sym (eqb-true trip (get_or (filter is_its times) k d).trip (filter_passes is_its times k d within))

calls_before : (times : List TimeRow) (list : List (List Call)) (trip : ℕ) → length list ≡ trip → EachAt (IsTripOf times) list → (earlier : ℕ) → earlier < trip → (calls : List Call) × IsTripOf times earlier calls
calls_before times list trip count each earlier less = (get_or list earlier [], each_read (IsTripOf times) list earlier [] each (omega (arith, count, less)))

-- a fault of the rows of the next trip is the first one, where the trips before it have calls
pub first_fault : (times rows : List TimeRow) (list : List (List Call)) (trip : ℕ) (fault : TripFault) → length list ≡ trip → EachAt (IsTripOf times) list → rows ≡ rows_of times trip
    → IsTripFaultOf rows fault → IsFirstFault times fault
first_fault times rows list trip (fault.NoTimes row) count each is wrong = record { trip = trip; is_fault = subst (λ (r : List TimeRow). HasFault r (fault.NoTimes row)) is wrong; before = calls_before times list trip count each }
first_fault times rows list trip (fault.TimesFall row) count each is wrong = record { trip = trip; is_fault = subst (λ (r : List TimeRow). HasFault r (fault.TimesFall row)) is wrong; before = calls_before times list trip count each }
first_fault times rows list trip fault.Memory count each is wrong = tt
