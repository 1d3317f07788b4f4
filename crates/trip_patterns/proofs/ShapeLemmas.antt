-- Runs that fit the shape of theirs.
use Rattle.std.proofs.Common.{◌≡◌, ℕ, ◌+◌, ◌<◌, pos, ◌+ℤ◌, ◌≤ℤ◌, List, length, get_or, Some, sym, ap, subst, ◌∙◌, arith}
use Rattle.std.specs.List.{Contains, slice_get}
use Rattle.std.proofs.lemmas.Option.{get_or_from_slice_get, slice_get-get_or, slice_get_within}
use Rattle.otp_model.specs.Patterns.{Spot, pattern_of}
use Rattle.otp_model.specs.Ranges.{IsTimely}
use Rattle.otp_model.specs.declared.timetable.Call.{Call}
use Rattle.otp_model.specs.declared.timetable.Run.{Run}
use Rattle.trip_patterns.specs.Hops.{least_dwell, least_hop}
use Rattle.trip_patterns.specs.Lanes.{IsCallAt}
use Rattle.trip_patterns.specs.Shapes.{FitsShape, IsShapeOf, ShapeOf}
use Rattle.trip_patterns.proofs.LaneLemmas.{same_wide}
use Rattle.trip_patterns.proofs.LeastLemmas.{dwell_bound, hop_bound}

pub contained_at : {X : Type 0} (xs : List X) (x : X) → Contains xs x → (k : ℕ) × (k < length xs) × (slice_get xs k ≡ Some x)
contained_at {X} xs x (k, less, same) = (k, less, slice_get-get_or xs k x less ∙ ap (λ (y : X). Some y) same)

pub shape_fits : (pattern : List Spot) (runs : List Run) (shape : ShapeOf) (run : Run) → IsShapeOf pattern runs shape → Contains runs run → pattern_of run ≡ pattern
    → IsTimely run → FitsShape shape run
shape_fits pattern runs shape run is among of timely =
    let row = contained_at runs run among in
    let wide = same_wide pattern run of in
    record {
      whole = record { hop_count = is.least.hop_count ∙ ap length (sym is.pattern_is); dwell_count = is.least.dwell_count ∙ ap length (sym is.pattern_is) };
      pattern = of ∙ sym is.pattern_is;
      hop = λ position seconds here next at here-at next-at.
          let under = slice_get_within run.calls position here here-at in
          let within = slice_get_within run.calls (position + 1) next next-at in
          let told : least_hop runs position ≡ seconds
          = sym (is.least.hops_are position (omega arith)) ∙ get_or_from_slice_get shape.hops position seconds 0 at in
          let here-is = get_or_from_slice_get run.calls position here here here-at in
          let next-is = get_or_from_slice_get run.calls (position + 1) next here next-at in
          let forward : here.departure ≤ℤ next.arrival
          = subst (λ (x : Call). x.departure ≤ℤ next.arrival) here-is
          (subst (λ (y : Call). (get_or run.calls position here).departure ≤ℤ y.arrival) next-is (timely.forward position (position + 1) here (omega arith) within)) in
          let here-call : IsCallAt runs row.0 position here = record { run = run; run_is = row.2; call_is = here-at } in
          let next-call : IsCallAt runs row.0 (position + 1) next = record { run = run; run_is = row.2; call_is = next-at } in
          subst (λ (n : ℕ). (here.departure +ℤ pos n) ≤ℤ next.arrival) told ((hop_bound runs position).each row.0 here next here-call next-call forward);
      dwell = λ position seconds here at here-at.
          let under = slice_get_within run.calls position here here-at in
          let told : least_dwell runs position ≡ seconds
          = sym (is.least.dwells_are position (omega arith)) ∙ get_or_from_slice_get shape.dwells position seconds 0 at in
          let here-is = get_or_from_slice_get run.calls position here here here-at in
          let along : here.arrival ≤ℤ here.departure = subst (λ (x : Call). x.arrival ≤ℤ x.departure) here-is (timely.along position here under) in
          let here-call : IsCallAt runs row.0 position here = record { run = run; run_is = row.2; call_is = here-at } in
          subst (λ (n : ℕ). (here.arrival +ℤ pos n) ≤ℤ here.departure) told ((dwell_bound runs position).each row.0 here here-call along);
    }
