-- What holds of the calls of every trip.
use Rattle.std.proofs.Common.{◌≡◌, ℕ, zero, suc, ◌+◌, ◌-◌, ◌<◌, ◌≤◌, pos, ◌≤ℤ◌, List, length, get_or, Some, None, subst, inl, inr, arith}
use Rattle.std.specs.Prelude.{Option}
use Rattle.std.specs.List.{All, AllPairs}
use Rattle.std.proofs.lemmas.Bool.{cases_eq}
use Rattle.std.proofs.lemmas.Int.{ints}
use Rattle.std.proofs.lemmas.Option.{get_or_from_slice_get, slice_get_within}
use Rattle.otp_model.specs.Rows.{IsClock}
use Rattle.otp_model.specs.Sound.{IsLaterCall}
use Rattle.otp_model.specs.declared.links.TimeRow.{TimeRow}
use Rattle.otp_model.specs.declared.timetable.Call.{Call}
use Rattle.feed_load.specs.Anchors.{HasClocks}
use Rattle.feed_load.specs.Calls.{GivesTimesAt, IsCallAt, first_given, rows_of}
use Rattle.feed_load.specs.Runs.{HasClock, IsSoundTrip}
use Rattle.feed_load.specs.Trips.{AreGoodCalls, IsTripOf}
use Rattle.feed_load.proofs.AlongFacts.{forward, stays}
use Rattle.otp_base.proofs.EachAtLemmas.{each_read}
use Rattle.feed_load.proofs.OrderFacts.{in_order_all, in_order_some}

given_small : (one other : Option ℕ) (time : ℕ) → IsClock one → IsClock other → first_given one other ≡ Some time → time < 3600000
given_small (Some t) other time a b h = let same : t ≡ time = cc h in omega (arith, a, same)
given_small None (Some t) time a b h = let same : t ≡ time = cc h in omega (arith, b, same)
given_small None None time a b h = absurd (cc h)

module _ (rows : List TimeRow) (calls : List Call) (clocks : All HasClocks rows) (good : AreGoodCalls rows calls) (some : 0 < length rows) where
  count : length calls ≡ length rows
  count = good.are.count

  at : (p : ℕ) (d : Call) → p < length calls → IsCallAt rows p (get_or calls p d)
  at p d less = each_read (IsCallAt rows) calls p d good.are.each less

  -- the times that a row gives are small
  small : (p arrival departure : ℕ) → GivesTimesAt rows p arrival departure → (arrival < 3600000) × (departure < 3600000)
  small p arrival departure gives =
      let row : TimeRow = gives.row in
      let is : get_or rows p row ≡ row = get_or_from_slice_get rows p row row gives.stands in
      let own : HasClocks row = subst HasClocks is (clocks p row (slice_get_within rows p row gives.stands)) in
      (given_small row.arrival row.departure arrival own.arrival own.departure gives.gives.arrives, given_small row.departure row.arrival departure own.departure own.arrival gives.gives.departs)

  -- the first call has times of its own, and so has the last one
  first_low : (d : Call) → pos 0 ≤ℤ (get_or calls 0 d).arrival
  first_low d = elim (at 0 d (omega (arith, count, some))).times [
    | inl given ↦ let is = given.arrives in omega (arith, ints, is)
    | inr filled ↦ absurd (omega (arith, filled.after))
  ]

  last_high : (p : ℕ) (d : Call) → p < length calls → length calls ≤ p + 1 → (get_or calls p d).departure ≤ℤ pos 3600000
  last_high p d less last = elim (at p d less).times [
    | inl given ↦ let is = given.departs in let few = (small p given.start given.end given.gives).1 in omega (arith, ints, is, few)
    | inr filled ↦
        let there = filled.gap.reached.1 in
        absurd (omega (arith, filled.before, slice_get_within rows filled.to there.row there.stands, count, last))
  ]

  low : (p : ℕ) (d : Call) → p < length calls → pos 0 ≤ℤ (get_or calls p d).arrival
  low zero d less = first_low d
  low (suc p) d less =
      let start = first_low d in
      let here = stays calls good.never_fall 0 d (omega (arith, less)) in
      let far = forward calls good.never_fall 0 p d (omega (arith, less)) in
      let same : 0 + suc p ≡ suc p = omega arith in
      subst (λ (n : ℕ). pos 0 ≤ℤ (get_or calls n d).arrival) same (omega (arith, ints, start, here, far))

  high : (p : ℕ) (d : Call) → p < length calls → (get_or calls p d).departure ≤ℤ pos 3600000
  high p d less = elim (cases_eq (length calls) (p + 1)) [
    | inl same ↦ last_high p d less (omega (arith, same))
    | inr other ↦
        let k : ℕ = length calls - p - 2 in
        let last : p + suc k < length calls = omega (arith, less, other) in
        let far = forward calls good.never_fall p k d last in
        let here = stays calls good.never_fall (p + suc k) d last in
        let end = last_high (p + suc k) d last (omega (arith, less, other)) in
        omega (arith, ints, far, here, end)
  ]

  pub calls_clocks : All HasClock calls
  calls_clocks = λ p d less.
      let from = low p d less in
      let to = high p d less in
      let here = stays calls good.never_fall p d less in
      record {
        arrival = record { low = omega (arith, ints, from); high = omega (arith, ints, to, here) };
        departure = record { low = omega (arith, ints, from, here); high = omega (arith, ints, to) };
      }

  pub calls_along : AllPairs (λ (a : TimeRow) (b : TimeRow). a.seq < b.seq) rows → AllPairs IsLaterCall calls
  calls_along rises = λ i j d less within.
      let one = at i d (omega (arith, less, within)) in
      let other = at j d within in
      let k : ℕ = j - i - 1 in
      let same : i + suc k ≡ j = omega (arith, less) in
      let far = forward calls good.never_fall i k d (omega (arith, same, within)) in
      let one_is : get_or rows i one.row ≡ one.row = get_or_from_slice_get rows i one.row one.row one.stands in
      let other_is : get_or rows j one.row ≡ other.row = get_or_from_slice_get rows j other.row one.row other.stands in
      let up : one.row.seq < other.row.seq =
      subst (λ (row : TimeRow). one.row.seq < row.seq) other_is (subst (λ (row : TimeRow). row.seq < (get_or rows j one.row).seq) one_is (rises i j one.row less (omega (arith, count, within)))) in
      record {
        rises = omega (arith, up, one.is.seq, other.is.seq);
        forward = subst (λ (n : ℕ). (get_or calls i d).departure ≤ℤ (get_or calls n d).arrival) same far;
      }

  pub calls_stops : (stops : ℕ) → All (λ (row : TimeRow). row.stop < stops) rows → All (λ (call : Call). call.stop < stops) calls
  calls_stops stops below = λ p d less.
      let here = at p d less in
      let is : get_or rows p here.row ≡ here.row = get_or_from_slice_get rows p here.row here.row here.stands in
      let few : here.row.stop < stops = subst (λ (row : TimeRow). row.stop < stops) is (below p here.row (omega (arith, count, less))) in
      omega (arith, few, here.is.stop)

-- the calls of a trip are sound, where its rows are
pub sound_trip : (stops : ℕ) (times : List TimeRow) (trip : ℕ) (calls : List Call) → All HasClocks (rows_of times trip) → All (λ (row : TimeRow). row.stop < stops) (rows_of times trip)
    → 0 < length (rows_of times trip) → (d : TimeRow) → IsTripOf times trip calls → IsSoundTrip stops calls
sound_trip stops times trip calls clocks below some d is =
    let rows : List TimeRow = rows_of times trip in
    let ordered : List TimeRow = is.ordered in
    let their_clocks = in_order_all HasClocks rows ordered is.is_ordered clocks in
    let their_stops = in_order_all (λ (row : TimeRow). row.stop < stops) rows ordered is.is_ordered below in
    let more : 0 < length ordered = in_order_some rows ordered d is.is_ordered some in
    record {
      some = omega (arith, is.good.are.count, more);
      stops_are = calls_stops ordered calls their_clocks is.good more stops their_stops;
      clocks = calls_clocks ordered calls their_clocks is.good more;
      stays = λ p e less. stays calls is.good.never_fall p e less;
      along = calls_along ordered calls their_clocks is.good more is.is_ordered.rises;
    }
