use Rattle.std.proofs.Common.{◌≡◌, ◌*◌, ◌<◌, List, [], length, get_or, sym, ◌∙◌, inl, inr, arith}
use Rattle.std.proofs.lemmas.Option.{slice_get-get_or}
use Rattle.otp_model.specs.declared.timetable.Call.{Call}
use Rattle.feed_load.specs.Runs.{call_count}
use Rattle.feed_load.specs.Starts.{starts_of}
use Rattle.feed_load.proofs.CountFacts.{capped_all, capped_none, runs_by_trip, trip_count}
use Rattle.feed_load.proofs.counts.count_trip.Goals as goal

pub returns-then-active-eq0-clause-count : goal.returns-then-active-eq0-clause-count
returns-then-active-eq0-clause-count c =
    let table = c.args.table.now in
    let n = c.args.number in
    let trip = get_or table.trips.now n c.index-table-number.result in
    let own : List Call = get_or table.calls.now n [] in
    let less : n < length table.calls.now = omega (arith, c.requires.table.same, c.requires.number) in
    let total = trip_count table.trips.now table.calls.now table.headways.now c.args.days.now n trip own
    (slice_get-get_or table.trips.now n c.index-table-number.result c.requires.number) (slice_get-get_or table.calls.now n [] less) in
    elim c.then-active-eq0.either [
      | inl none ↦
          capped_none c.args.count _ (length own * length (starts_of table.headways.now n)) 40000001 _ c.requires.few total (sym c.active_days-active.ensures ∙ none)
      | inr full ↦ (let most = full.1 in omega (arith, most))
    ]

pub returns-clause-count : goal.returns-clause-count
returns-clause-count c =
    let table = c.args.table.now in
    let n = c.args.number in
    let trip = get_or table.trips.now n c.index-table-number.result in
    let own = get_or table.calls.now n c.index-table-number-2.result in
    let less : n < length table.calls.now = omega (arith, c.requires.table.same, c.requires.number) in
    let total = trip_count table.trips.now table.calls.now table.headways.now c.args.days.now n trip own
    (slice_get-get_or table.trips.now n c.index-table-number.result c.requires.number) (slice_get-get_or table.calls.now n c.index-table-number-2.result less) in
    let counts : call_count (runs_by_trip table.trips.now table.calls.now table.headways.now c.args.days.now n) ≡ c.active_days-active.result * (c.len-calls.result * c.in_ok-starts.starts) =
    total ∙ (λ i. sym c.active_days-active.ensures i * (sym c.len-calls.ensures i * sym c.in_ok-starts.ensures.count i)) in
    capped_all c.args.count c.active_days-active.result c.len-calls.result c.in_ok-starts.starts 40000001 18446744073709551615 c.saturating_mul.result c.saturating_mul-more.result c.saturating_add.result c.min.result _
    (omega arith) c.saturating_mul.ensures c.saturating_mul-more.ensures c.saturating_add.ensures c.min.ensures counts
