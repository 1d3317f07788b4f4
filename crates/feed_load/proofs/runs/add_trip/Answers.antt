use Rattle.std.proofs.Common.{◌≡◌, ◌<◌, ◌++◌, ◌∷◌, [], ℕ, List, None, Some, length, map, get_or, sym, ap, ◌∙◌, arith}
use Rattle.std.proofs.lemmas.List.{append-nil}
use Rattle.std.proofs.lemmas.Option.{slice_get-get_or}
use Rattle.otp_model.specs.declared.timetable.Call.{Call}
use Rattle.otp_model.specs.declared.timetable.Run.{Run}
use Rattle.feed_load.specs.Marks.{times_of}
use Rattle.feed_load.specs.Runs.{run_from}
use Rattle.feed_load.specs.Starts.{starts_in, starts_of}
use Rattle.feed_load.proofs.RunFacts.{not_running, running, starts_clock, starts_none, starts_some}
use Rattle.feed_load.proofs.runs.add_trip.Goals as goal

pub returns-then-not-has-clause-runs : goal.returns-then-not-has-clause-runs
returns-then-not-has-clause-runs c =
    let table = c.args.table.now in
    let n = c.args.number in
    let runs = c.args.runs.now in
    let trip = get_or table.trips.now n c.index-table-number.result in
    let own : List Call = get_or table.calls.now n [] in
    let less : n < length table.calls.now = omega (arith, c.requires.table.same, c.requires.number) in
    let none = not_running table.trips.now table.calls.now table.headways.now c.args.day.now n trip own
    (slice_get-get_or table.trips.now n c.index-table-number.result c.requires.number) (slice_get-get_or table.calls.now n [] less) (sym c.has.ensures ∙ c.if-not-has.true) in
    sym (append-nil runs) ∙ ap (λ (rs : List Run). runs ++ rs) (sym none)

pub returns-then-len-eq0-clause-runs : goal.returns-then-len-eq0-clause-runs
returns-then-len-eq0-clause-runs c =
    let table = c.args.table.now in
    let n = c.args.number in
    let day = c.args.day.now in
    let runs = c.args.runs.now in
    let trip = get_or table.trips.now n c.index-table-number.result in
    let own = get_or table.calls.now n c.index-table-number-2.result in
    let less : n < length table.calls.now = omega (arith, c.requires.table.same, c.requires.number) in
    let all = running table.trips.now table.calls.now table.headways.now day n trip own
    (slice_get-get_or table.trips.now n c.index-table-number.result c.requires.number) (slice_get-get_or table.calls.now n c.index-table-number-2.result less) (sym c.has.ensures ∙ c.if-not-has.false) in
    let empty : length c.in_ok-rows.rows.items ≡ 0 = omega (arith, c.len.ensures, c.if-len-eq0.true) in
    let one : starts_of table.headways.now n ≡ None ∷ [] = sym c.in_ok-rows.ensures.starts ∙ starts_none c.in_ok-rows.rows.items empty in
    let run : c.in_ok-run.run' ≡ run_from day n own None = rw c.as_slice-calls.ensures at c.in_ok-run.ensures in
    c.in_ok-push.ensures.ok ∙ (ap (λ (r : Run). runs ++ r ∷ []) run ∙ ap (λ (rs : List Run). runs ++ rs) (sym (all ∙ ap (map (run_from day n own)) one)))

pub list_starts-requires-clause-rows : goal.list_starts-requires-clause-rows
list_starts-requires-clause-rows c =
    rw c.deref.ensures.value (c.in_ok-rows.ensures.headways (times_of c.args.marks.now) c.requires.table.headways)

pub add_runs-requires-clause-starts : goal.add_runs-requires-clause-starts
add_runs-requires-clause-starts c = rw (c.deref-2.ensures.value, c.in_ok-starts.ensures.starts) (starts_clock c.deref.result.now)

pub returns-clause-runs : goal.returns-clause-runs
returns-clause-runs c =
    let table = c.args.table.now in
    let n = c.args.number in
    let day = c.args.day.now in
    let runs = c.args.runs.now in
    let trip = get_or table.trips.now n c.index-table-number.result in
    let own = get_or table.calls.now n c.index-table-number-2.result in
    let less : n < length table.calls.now = omega (arith, c.requires.table.same, c.requires.number) in
    let all = running table.trips.now table.calls.now table.headways.now day n trip own
    (slice_get-get_or table.trips.now n c.index-table-number.result c.requires.number) (slice_get-get_or table.calls.now n c.index-table-number-2.result less) (sym c.has.ensures ∙ c.if-not-has.false) in
    let some : length c.in_ok-rows.rows.items ≡ 0 → ⊥ = λ none. c.if-len-eq0.false (omega (arith, c.len.ensures, none)) in
    let starts : starts_of table.headways.now n ≡ map (λ (start : ℕ). Some start) c.in_ok-starts.starts.items =
    sym c.in_ok-rows.ensures.starts
    ∙ (starts_some c.in_ok-rows.rows.items some ∙ ap (map (λ (start : ℕ). Some start)) (ap starts_in (sym c.deref.ensures.value) ∙ sym c.in_ok-starts.ensures.starts)) in
    let made = rw (c.as_slice-calls.ensures, c.deref-2.ensures.value) at c.in_ok-add_runs.ensures in
    made ∙ ap (λ (rs : List Run). runs ++ rs) (sym (all ∙ ap (map (run_from day n own)) starts))
