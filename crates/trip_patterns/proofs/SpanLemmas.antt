-- When the rows of a lane depart.
use Rattle.std.proofs.Common.{◌≡◌, ℕ, ◌+◌, ◌<◌, ◌≤◌, ℤ, ◌≤ℤ◌, List, length, take, get_or, Some, sym, subst, ◌∙◌, arith, inl, inr}
use Rattle.std.specs.List.{Contains, slice_get}
use Rattle.std.proofs.lemmas.Bool.{cases_lt}
use Rattle.std.proofs.lemmas.Int.{ints}
use Rattle.std.proofs.lemmas.List.{take_more}
use Rattle.std.proofs.lemmas.List.Elements.{Contains-push_cases}
use Rattle.std.proofs.lemmas.Option.{get_or_from_slice_get, same_Some, slice_get-get_or, slice_get_within}
use Rattle.otp_model.specs.Patterns.{pattern_of}
use Rattle.otp_model.specs.Ranges.{IsTimely}
use Rattle.otp_model.specs.declared.timetable.Call.{Call}
use Rattle.otp_model.specs.declared.timetable.Run.{Run}
use Rattle.trip_patterns.specs.declared.span.Span.{Span}
use Rattle.trip_patterns.specs.Lanes.{IsCallAt, IsLane, IsNoEarlier, LaneOf}
use Rattle.trip_patterns.specs.Spans.{IsSpan, IsSpanOf, IsWithinSpan}
use Rattle.trip_patterns.proofs.LaneLemmas.{same_wide}
use Rattle.trip_patterns.proofs.ShapeLemmas.{contained_at}

-- a timely run departs from no call after it departs from a later one
departs_along : (run : Run) (p q : ℕ) (x y : Call) → IsTimely run → p ≤ q → slice_get run.calls p ≡ Some x → slice_get run.calls q ≡ Some y → x.departure ≤ℤ y.departure
departs_along run p q x y timely up at then =
    elim (cases_lt p q) [
      | inl less ↦
          let within = slice_get_within run.calls q y then in
          let x-is = get_or_from_slice_get run.calls p x x at in
          let y-is = get_or_from_slice_get run.calls q y x then in
          let forward : x.departure ≤ℤ y.arrival
          = subst (λ (c : Call). c.departure ≤ℤ y.arrival) x-is
          (subst (λ (c : Call). (get_or run.calls p x).departure ≤ℤ c.arrival) y-is (timely.forward p q x less within)) in
          let along : y.arrival ≤ℤ y.departure = subst (λ (c : Call). c.arrival ≤ℤ c.departure) y-is (timely.along q x within) in
          omega (arith, ints, forward, along)
      | inr over ↦
          let same : q ≡ p = omega arith in
          let x-is-y : x ≡ y = same_Some _ _ (sym at ∙ subst (λ (n : ℕ). slice_get run.calls n ≡ Some y) same then) in
          subst (λ (c : Call). x.departure ≤ℤ c.departure) x-is-y (omega (arith, ints))
    ]

-- no row departs from a call before an earlier row does
rows_along : (lane : LaneOf) (r s p : ℕ) (x y : Call) → IsLane lane → r ≤ s → IsCallAt lane.runs r p x → IsCallAt lane.runs s p y → x.departure ≤ℤ y.departure
rows_along lane r s p x y is up at then =
    elim (cases_lt r s) [
      | inl less ↦
          let within = slice_get_within lane.runs s then.run then.run_is in
          let a-is = get_or_from_slice_get lane.runs r at.run at.run at.run_is in
          let b-is = get_or_from_slice_get lane.runs s then.run at.run then.run_is in
          let pair : IsNoEarlier at.run then.run
          = subst (λ (a : Run). IsNoEarlier a then.run) a-is
          (subst (λ (b : Run). IsNoEarlier (get_or lane.runs r at.run) b) b-is (is.order r s at.run less within)) in
          (pair.each p x y at.call_is then.call_is).1
      | inr over ↦
          let same : s ≡ r = omega arith in
          let run-is : then.run ≡ at.run = same_Some _ _ (sym (subst (λ (n : ℕ). slice_get lane.runs n ≡ Some then.run) same then.run_is) ∙ at.run_is) in
          let x-is-y : x ≡ y = same_Some _ _ (sym at.call_is ∙ subst (λ (run : Run). slice_get run.calls p ≡ Some y) run-is then.call_is) in
          subst (λ (c : Call). x.departure ≤ℤ c.departure) x-is-y (omega (arith, ints))
    ]

-- the span of a lane is from the first call of its first row to the last call of its last
pub span_is : (lane : LaneOf) (first last : Call) (k p : ℕ) (span : Span) → IsLane lane → length lane.runs ≡ k + 1 → length lane.pattern ≡ p + 1
    → IsCallAt lane.runs 0 0 first → IsCallAt lane.runs k p last → span.first ≡ first.departure → span.last ≡ last.departure → IsSpan lane.runs span
span_is lane first last k p span is rows positions first-at last-at from to = record {
  each = λ run call among timely called.
      let row = contained_at lane.runs run among in
      let here = contained_at run.calls call called in
      let r = row.0 in
      let q = here.0 in
      let row-is : get_or lane.runs r run ≡ run = get_or_from_slice_get lane.runs r run run row.2 in
      let of : pattern_of run ≡ lane.pattern = subst (λ (x : Run). pattern_of x ≡ lane.pattern) row-is (is.pattern r run row.1) in
      let wide : length run.calls ≡ p + 1 = same_wide lane.pattern run of ∙ positions in
      let start : Call = get_or run.calls 0 call in
      let end : Call = get_or run.calls p call in
      let start-is : slice_get run.calls 0 ≡ Some start = slice_get-get_or run.calls 0 call (omega arith) in
      let end-is : slice_get run.calls p ≡ Some end = slice_get-get_or run.calls p call (omega arith) in
      let start-at : IsCallAt lane.runs r 0 start = record { run = run; run_is = row.2; call_is = start-is } in
      let end-at : IsCallAt lane.runs r p end = record { run = run; run_is = row.2; call_is = end-is } in
      let low = rows_along lane 0 r 0 first start is (omega arith) first-at start-at in
      let high = rows_along lane r k p end last is (let l = row.1 in omega arith) end-at last-at in
      let begun = departs_along run 0 q start call timely (omega arith) start-is here.2 in
      let ended = departs_along run q p call end timely (let l = here.1 in omega arith) here.2 end-is in
      record {
        first = subst (λ (t : ℤ). t ≤ℤ call.departure) (sym from) (omega (arith, ints, low, begun));
        last = subst (λ (t : ℤ). call.departure ≤ℤ t) (sym to) (omega (arith, ints, high, ended));
      };
}

-- a span with one lane more
pub span_more : (lanes : List LaneOf) (i : ℕ) (lane : LaneOf) (so_far own joined : Span) → i < length lanes → lane ≡ get_or lanes i lane
    → IsSpanOf (take i lanes) so_far → IsSpan lane.runs own → ((time : ℤ) → IsWithinSpan so_far time → IsWithinSpan joined time)
    → ((time : ℤ) → IsWithinSpan own time → IsWithinSpan joined time) → IsSpanOf (take (i + 1) lanes) joined
span_more lanes i lane so_far own joined less at are is wider others = record {
  each = λ other among. elim (Contains-push_cases (take i lanes) (get_or lanes i lane) other (subst (λ (ls : List LaneOf). Contains ls other) (take_more lanes i lane less) among)) [
    | inl before ↦ record { each = λ run call in-runs timely called. wider call.departure ((are.each other before).each run call in-runs timely called) }
    | inr here ↦
        let same : lane ≡ other = at ∙ here in
        subst (λ (l : LaneOf). IsSpan l.runs joined) same (record { each = λ run call in-runs timely called. others call.departure (is.each run call in-runs timely called) })
  ];
}
