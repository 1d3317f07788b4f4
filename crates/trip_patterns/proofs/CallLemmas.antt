-- The calls of a row, and the run that they make.
use Rattle.std.proofs.Common.{◌≡◌, ℕ, zero, suc, ◌<◌, ℤ, pos, ◌≤ℤ◌, false, List, [], ◌∷◌, length, map, get_or, Some, refl, sym, ap, subst, ◌∙◌, arith, ◌↔◌}
use Rattle.std.specs.List.{slice_get}
use Rattle.std.proofs.lemmas.List.{length-map}
use Rattle.std.proofs.lemmas.Option.{same_Some, slice_get_within}
use Rattle.otp_model.specs.Patterns.{Spot, pattern_of, spot_of}
use Rattle.otp_model.specs.declared.timetable.Call.{Call}
use Rattle.otp_model.specs.declared.timetable.Run.{Run}
use Rattle.trip_patterns.specs.declared.row.Row.{Row}
use Rattle.trip_patterns.specs.Lanes.{IsNoEarlier}
use Rattle.trip_patterns.specs.Rows.{IsRow, IsRowBefore, IsRowOf, calls_of, run_of}

abbrev pub no_spot : Spot
no_spot = record { stop = 0; board = false; alight = false }

abbrev pub call_at : List Spot → Row → ℕ → Call
call_at pattern row k = record {
  stop = (get_or pattern k no_spot).stop;
  seq = get_or row.seqs k 0;
  arrival = get_or row.arrivals k (pos 0);
  departure = get_or row.departures k (pos 0);
  board = (get_or pattern k no_spot).board;
  alight = (get_or pattern k no_spot).alight;
}

calls_get : (p : List Spot) (s : List ℕ) (a d : List ℤ) (k : ℕ) → k < length p → k < length s → k < length a → k < length d
    → slice_get (calls_of p s a d) k ≡ Some (record {
      stop = (get_or p k no_spot).stop;
      seq = get_or s k 0;
      arrival = get_or a k (pos 0);
      departure = get_or d k (pos 0);
      board = (get_or p k no_spot).board;
      alight = (get_or p k no_spot).alight;
    })
calls_get [] s a d k kp ks ka kd = absurd (omega arith)
calls_get (x ∷ p) [] a d k kp ks ka kd = absurd (omega arith)
calls_get (x ∷ p) (y ∷ s) [] d k kp ks ka kd = absurd (omega arith)
calls_get (x ∷ p) (y ∷ s) (z ∷ a) [] k kp ks ka kd = absurd (omega arith)
calls_get (x ∷ p) (y ∷ s) (z ∷ a) (w ∷ d) zero kp ks ka kd = refl
calls_get (x ∷ p) (y ∷ s) (z ∷ a) (w ∷ d) (suc k) kp ks ka kd = calls_get p s a d k (omega arith) (omega arith) (omega arith) (omega arith)

-- the call that a row has at a position
pub row_call : (pattern : List Spot) (row : Row) (k : ℕ) → IsRow (length pattern) row → k < length pattern
    → slice_get (run_of pattern row).calls k ≡ Some (call_at pattern row k)
row_call pattern row k whole less =
    calls_get pattern row.seqs row.arrivals row.departures k less (omega (arith, whole.seqs)) (omega (arith, whole.arrivals)) (omega (arith, whole.departures))

own_calls : (calls : List Call) → calls_of (map spot_of calls) (map (λ (call : Call). call.seq) calls) (map (λ (call : Call). call.arrival) calls) (map (λ (call : Call). call.departure) calls) ≡ calls
own_calls [] = refl
own_calls (call ∷ calls) = ap (λ (cs : List Call). call ∷ cs) (own_calls calls)

-- the row of a run stands for it
pub own_run : (pattern : List Spot) (run : Run) (row : Row) → pattern_of run ≡ pattern → IsRowOf run row → run_of pattern row ≡ run
own_run pattern run row of own =
    let seqs = own.seqs in
    let arrivals = own.arrivals in
    let departures = own.departures in
    let same : calls_of pattern row.seqs row.arrivals row.departures
    ≡ calls_of (map spot_of run.calls) (map (λ (call : Call). call.seq) run.calls) (map (λ (call : Call). call.arrival) run.calls) (map (λ (call : Call). call.departure) run.calls)
    = λ i. calls_of (sym of i) (seqs i) (arrivals i) (departures i) in
    let calls = same ∙ own_calls run.calls in
    let name = own.name in
    λ i. record { name = name i; calls = calls i }

pub own_row : (pattern : List Spot) (run : Run) (row : Row) → pattern_of run ≡ pattern → IsRowOf run row → IsRow (length pattern) row
own_row pattern run row of own =
    let wide : length run.calls ≡ length pattern = sym (length-map run.calls spot_of) ∙ ap length of in
    record {
      seqs = ap length own.seqs ∙ length-map run.calls _ ∙ wide;
      arrivals = ap length own.arrivals ∙ length-map run.calls _ ∙ wide;
      departures = ap length own.departures ∙ length-map run.calls _ ∙ wide;
    }

-- a row before the calls of a run is a run that it is no earlier than
pub no_earlier : (pattern : List Spot) (row : Row) (run : Run) → IsRow (length pattern) row → pattern_of run ≡ pattern
    → pattern_of (run_of pattern row) ≡ pattern → (IsRowBefore row run.calls ↔ IsNoEarlier (run_of pattern row) run)
no_earlier pattern row run whole of row-of =
    let wide : length run.calls ≡ length pattern = sym (length-map run.calls spot_of) ∙ ap length of in (
      (λ before. record {
        each = λ k x y row-at run-at.
            let less : k < length pattern = (let within = slice_get_within run.calls k y run-at in omega arith) in
            let same : call_at pattern row k ≡ x = same_Some _ _ (sym (row_call pattern row k whole less) ∙ row-at) in
            subst (λ (z : Call). (z.arrival ≤ℤ y.arrival) × (z.departure ≤ℤ y.departure)) same (before.each k y run-at);
      }),
      (λ later. record {
        each = λ k y run-at.
            let less : k < length pattern = (let within = slice_get_within run.calls k y run-at in omega arith) in
            later.each k (call_at pattern row k) y (row_call pattern row k whole less) run-at;
      }),
    )
