use Rattle.std.proofs.Common.{◌≡◌, ℕ, length, min, ap, sym, ◌∙◌, arith}
use Rattle.std.specs.List.{flat_map, range_with_len}
use Rattle.feed_load.specs.Runs.{call_count}
use Rattle.feed_load.proofs.CountFacts.{count_step, count_swapped, runs_by_trip}
use Rattle.feed_load.proofs.counts.count_calls.Goals as goal

pub loop-number-preserved : goal.loop-number-preserved
loop-number-preserved c =
    let table = c.args.table.now in
    let made = c.in_ok-count.ensures in
    let kept = c.loop-number.invariant in
    record {
      kept = made.marks;
      times = made.times ∙ kept.times;
      count = count_step (runs_by_trip table.trips.now table.calls.now table.headways.now c.args.days.now) c.loop-number.number c.loop-number.count c.in_ok-count.count 40000001 kept.count made.count;
    }

pub returns-clause-count : goal.returns-clause-count
returns-clause-count c =
    let table = c.args.table.now in
    let last : c.loop-number.number ≡ length table.trips.now = omega (arith, c.loop-number-test.false, c.loop-number.auto.number-end) in
    c.loop-number.invariant.count
    ∙ ap (λ (n : ℕ). min n 40000001)
    (ap (λ (n : ℕ). call_count (flat_map (runs_by_trip table.trips.now table.calls.now table.headways.now c.args.days.now) (range_with_len 0 n))) last
    ∙ sym (count_swapped table.trips.now table.calls.now table.headways.now c.args.days.now))
