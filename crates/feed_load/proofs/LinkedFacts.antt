-- What linked tables give to their trips and runs.
use Rattle.std.proofs.Common.{ℕ, ◌<◌, List, length, ◌≡◌, get_or, None, false, subst, arith}
use Rattle.std.specs.List.{All}
use Rattle.std.proofs.lemmas.List.Elements.{All-filter}
use Rattle.std.proofs.lemmas.List.Sums.{length-filter}
use Rattle.otp_model.specs.FeedFaults.{IsFault, fault_at}
use Rattle.otp_model.specs.declared.feed_fault.FeedCause.{FeedCause}
use Rattle.otp_model.specs.declared.feed_fault.FeedFile.{FeedFile}
use Rattle.otp_model.specs.declared.feed_fault.FeedFault.{FeedFault}
use Rattle.otp_model.specs.declared.feed_fault.FeedFault.TheVariants as feed
use Rattle.otp_model.specs.declared.links.TimeRow.{TimeRow}
use Rattle.otp_model.specs.declared.timetable.Call.{Call}
use Rattle.gtfs_links.specs.declared.feed.Linked.{Linked}
use Rattle.gtfs_links.specs.Resolved.{IsResolved, is_time_of}
use Rattle.feed_load.specs.Anchors.{HasClocks}
use Rattle.feed_load.specs.Calls.{rows_of}
use Rattle.feed_load.specs.Loaded.{AreCalls, IfTold}
use Rattle.feed_load.specs.Runs.{IsSoundTrip}
use Rattle.feed_load.specs.Trips.{AreTripRows, IsTripOf}
use Rattle.otp_base.proofs.EachAtLemmas.{each_read}
use Rattle.feed_load.proofs.TripFacts.{sound_trip}

clocks_of : (linked : Linked) → IsResolved linked → All HasClocks linked.times
clocks_of linked is = λ k d less. record { arrival = (is.times k d less).arrival; departure = (is.times k d less).departure }

some_of : (linked : Linked) → IsResolved linked → (trip : ℕ) → trip < length linked.trips → 0 < length (rows_of linked.times trip)
some_of linked is trip less = omega (arith, is.called trip less, length-filter (is_time_of trip) linked.times)

pub trip_rows : (linked : Linked) → IsResolved linked → AreTripRows (length linked.trips) linked.times
trip_rows linked is = record {
  few_trips = omega (arith, is.few_trips);
  few = omega (arith, is.few_times);
  clocks = clocks_of linked is;
  within = λ k d less. (is.times k d less).trip;
  some = some_of linked is;
  distinct = is.calls;
}

no_row : TimeRow
no_row = record { row = 0; trip = 0; seq = 0; stop = 0; arrival = None; departure = None; board = false; alight = false }

pub sound_trips : (linked : Linked) (calls : List (List Call)) → IsResolved linked → AreCalls linked calls → All (IsSoundTrip (length linked.stops)) calls
sound_trips linked calls is are = λ k d less.
    sound_trip (length linked.stops) linked.times k (get_or calls k d)
    (All-filter (is_time_of k) HasClocks linked.times (clocks_of linked is))
    (All-filter (is_time_of k) (λ (row : TimeRow). row.stop < length linked.stops) linked.times (λ n e within. (is.times n e within).stop))
    (some_of linked is k (omega (arith, less, are.count))) no_row (each_read (IsTripOf linked.times) calls k d are.each less)

-- want of memory tells nothing
pub told_fault : (P : FeedFault → Type 0) (fault meant : FeedFault) → IsFault fault meant → P meant → IfTold P fault
told_fault P (feed.At c f r column) meant is holds = subst P is holds
told_fault P feed.Read meant is holds = tt
told_fault P feed.Memory meant is holds = tt

pub told_weaker : (P Q : FeedFault → Type 0) (fault : FeedFault) → ((told : FeedFault) → P told → Q told) → IfTold P fault → IfTold Q fault
told_weaker P Q (feed.At c f r column) weaker h = weaker (feed.At c f r column) h
told_weaker P Q feed.Read weaker h = h
told_weaker P Q feed.Memory weaker h = h

pub never_read : (fault : FeedFault) (c : FeedCause) (f : FeedFile) (row : ℕ) (column : List ℕ) → IsFault fault (fault_at c f row column) → fault ≡ feed.Read → ⊥
never_read (feed.At n m r column') c f row column is same = absurd (cc same)
never_read feed.Read c f row column is same = is
never_read feed.Memory c f row column is same = absurd (cc same)
