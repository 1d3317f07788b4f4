use Rattle.std.proofs.Common.{◌≢◌, ◌<◌, ℕ, length, List, sym, subst, arith}
use Rattle.std.specs.List.{AllPairs}
use Rattle.std.proofs.lemmas.List.{length_push}
use Rattle.otp_model.specs.declared.links.TimeRow.{TimeRow}
use Rattle.otp_base.proofs.EachAtLemmas.{each_push}
use Rattle.feed_load.specs.Anchors.{AreRows}
use Rattle.feed_load.specs.Calls.{rows_of}
use Rattle.feed_load.specs.Trips.{AreCallsOfTrip, IsTripOf}
use Rattle.feed_load.proofs.TripRowLemmas.{first_fault, rows_suit}
use Rattle.feed_load.proofs.trips.calls_by_trip.Goals as goal

pub of-requires-clause-few : goal.of-requires-clause-few
of-requires-clause-few c = rw c.as_slice-times.ensures c.requires.few

pub of-requires-clause-within : goal.of-requires-clause-within
of-requires-clause-within c = rw c.as_slice-times.ensures c.requires.within

suits : (c : goal.In_ok-rows) → (0 < length c.in_ok-rows.rows.items) × AreRows c.in_ok-rows.rows.items × AllPairs (λ (a : TimeRow) (b : TimeRow). a.seq ≢ b.seq) c.in_ok-rows.rows.items
suits c = rows_suit c.args.trips c.args.times c.in_ok-rows.rows.items c.loop-trip.trip c.requires c.loop-trip-test.true (rw c.as_slice-times.ensures at c.in_ok-rows.ensures)

pub ordered_calls-requires-clause-some : goal.ordered_calls-requires-clause-some
ordered_calls-requires-clause-some c = (suits c).0

pub ordered_calls-requires-clause-rows : goal.ordered_calls-requires-clause-rows
ordered_calls-requires-clause-rows c = (suits c).1

pub ordered_calls-requires-clause-distinct : goal.ordered_calls-requires-clause-distinct
ordered_calls-requires-clause-distinct c = (suits c).2

pub returns-in-Err-clause-fault : goal.returns-in-Err-clause-fault
returns-in-Err-clause-fault c =
    let kept = c.loop-trip.invariant in
    first_fault c.args.times c.in_ok-rows.rows.items c.loop-trip.list.items c.loop-trip.trip c.in-Err.fault kept.count (rw c.as_slice-times.ensures at kept.each)
    (rw c.as_slice-times.ensures at c.in_ok-rows.ensures) c.in-Err.ensures.fault

pub loop-trip-preserved : goal.loop-trip-preserved
loop-trip-preserved c =
    let times = c.as_slice-times.result.now in
    let kept = c.loop-trip.invariant in
    let calls = c.in-Ok.calls in
    let own : AreCallsOfTrip (rows_of times c.loop-trip.trip) calls = subst (λ (rows : List TimeRow). AreCallsOfTrip rows calls) c.in_ok-rows.ensures c.in-Ok.ensures.calls in
    rw c.in_ok-push-in-Ok.ensures (record {
      count = simp length_push (omega (arith, kept.count));
      each = each_push (IsTripOf times) c.loop-trip.list.items calls kept.each (subst (λ (n : ℕ). IsTripOf times n calls) (sym kept.count) own);
    })
