-- A lane with one row more.
use Rattle.std.proofs.Common.{◌≡◌, ℕ, zero, suc, ◌+◌, ◌-◌, ◌<◌, ℤ, ◌≤ℤ◌, List, [], ◌∷◌, ◌++◌, length, map, get_or, Some, refl, sym, ap, subst, ◌∙◌, arith, ◌↔◌, inl, inr}
use Rattle.std.specs.List.{slice_get}
use Rattle.std.proofs.lemmas.Bool.{cases_lt}
use Rattle.std.proofs.lemmas.Int.{ints}
use Rattle.std.proofs.lemmas.List.{get_or-map, get_or_append_left, get_or_push, length-map, length_push, map_push}
use Rattle.std.proofs.lemmas.List.Elements.{All-push}
use Rattle.std.proofs.lemmas.List.Quantifiers.{all_pairs_push}
use Rattle.std.proofs.lemmas.Option.{get_or_from_slice_get, same_Some, slice_get-get_or, slice_get-map, slice_get_within}
use Rattle.std.specs.Option.{option_map}
use Rattle.otp_model.specs.Patterns.{Spot, pattern_of, spot_of}
use Rattle.otp_model.specs.declared.timetable.Call.{Call}
use Rattle.otp_model.specs.declared.timetable.Run.{Run}
use Rattle.trip_patterns.specs.declared.row.Row.{Row}
use Rattle.trip_patterns.specs.Lanes.{IsLane, IsNoEarlier, LaneOf, with_run}
use Rattle.trip_patterns.specs.Rows.{AreRows, IsBehindLast, IsLastBefore, IsRow, IsRowBefore, IsRowOf, lane_of, run_of}
use Rattle.trip_patterns.proofs.CallLemmas.{no_earlier, own_row, own_run}

pub same_wide : (pattern : List Spot) (run : Run) → pattern_of run ≡ pattern → length run.calls ≡ length pattern
same_wide pattern run of = sym (length-map run.calls spot_of) ∙ ap length of

le_trans_z : (a b c : ℤ) → a ≤ℤ b → b ≤ℤ c → a ≤ℤ c
le_trans_z a b c h g = omega (arith, ints)

-- no earlier than a run which is no earlier than another
no_earlier_trans : (pattern : List Spot) (a b c : Run) → pattern_of b ≡ pattern → pattern_of c ≡ pattern → IsNoEarlier a b → IsNoEarlier b c → IsNoEarlier a c
no_earlier_trans pattern a b c b-of c-of first second = record {
  each = λ k x z a-at c-at.
      let less : k < length b.calls = (let within = slice_get_within c.calls k z c-at in omega (arith, same_wide pattern b b-of, same_wide pattern c c-of)) in
      let y : Call = get_or b.calls k x in
      let b-at = slice_get-get_or b.calls k x less in
      let p = first.each k x y a-at b-at in
      let q = second.each k y z b-at c-at in
      (le_trans_z _ _ _ p.0 q.0, le_trans_z _ _ _ p.1 q.1);
}

-- a run of the lane's day and pattern that is behind the last row is behind each
pub joins : (lane : LaneOf) (run : Run) → IsLane lane → run.name.day ≡ lane.day → pattern_of run ≡ lane.pattern → IsBehindLast lane.runs run → IsLane (with_run lane run)
joins lane run is day of behind = record {
  day = All-push (λ (run : Run). run.name.day ≡ lane.day) lane.runs run is.day day;
  pattern = All-push (λ (run : Run). pattern_of run ≡ lane.pattern) lane.runs run is.pattern of;
  order = all_pairs_push IsNoEarlier lane.runs run is.order (λ k d less.
      let end : ℕ = length lane.runs - 1 in
      let last : Run = get_or lane.runs end d in
      let at-end : slice_get lane.runs end ≡ Some last = slice_get-get_or lane.runs end d (omega arith) in
      let before : IsNoEarlier last run = behind end last (omega arith) at-end in
      elim (cases_lt k end) [
        | inl under ↦ no_earlier_trans lane.pattern (get_or lane.runs k d) last run (is.pattern end d (omega arith)) of (is.order k end d under (omega arith)) before
        | inr over ↦ subst (λ (n : ℕ). IsNoEarlier (get_or lane.runs n d) run) (let e : end ≡ k = omega arith in e) before
      ]);
}

-- what the last row of a lane says of those before it
pub joined : (lane : LaneOf) (run : Run) → IsLane (with_run lane run) → (run.name.day ≡ lane.day) × (pattern_of run ≡ lane.pattern) × IsBehindLast lane.runs run
joined lane run is =
    let end : ℕ = length lane.runs in
    let more : length (lane.runs ++ run ∷ []) ≡ end + 1 = length_push lane.runs run in
    let here : get_or (lane.runs ++ run ∷ []) end run ≡ run = get_or_push lane.runs run run end refl in (
      subst (λ (r : Run). r.name.day ≡ lane.day) here (is.day end run (omega arith)),
      subst (λ (r : Run). pattern_of r ≡ lane.pattern) here (is.pattern end run (omega arith)),
      (λ k last whole at.
          let less : k < length lane.runs = omega arith in
          let kept : get_or (lane.runs ++ run ∷ []) k run ≡ last = get_or_append_left lane.runs (run ∷ []) run k less ∙ get_or_from_slice_get lane.runs k last run at in
          let pair = is.order k end run (omega arith) (omega arith) in
          subst (λ (r : Run). IsNoEarlier r run) kept (subst (λ (r : Run). IsNoEarlier (get_or (lane.runs ++ run ∷ []) k run) r) here pair)),
    )

-- the rows with that of a run which joins them
pub lane_more : (day : ℤ) (pattern : List Spot) (rows : List Row) (run : Run) (row : Row) → pattern_of run ≡ pattern → IsRowOf run row
    → lane_of day pattern (rows ++ row ∷ []) ≡ with_run (lane_of day pattern rows) run
lane_more day pattern rows run row of own =
    let runs : map (run_of pattern) (rows ++ row ∷ []) ≡ map (run_of pattern) rows ++ run ∷ []
    = map_push (run_of pattern) rows row ∙ ap (λ (r : Run). map (run_of pattern) rows ++ r ∷ []) (own_run pattern run row of own) in
    λ i. record { day = day; pattern = pattern; runs = runs i }

pub rows_more : (day : ℤ) (pattern : List Spot) (rows : List Row) (run : Run) (row : Row) → AreRows day pattern rows
    → IsLane (with_run (lane_of day pattern rows) run) → IsRowOf run row → AreRows day pattern (rows ++ row ∷ [])
rows_more day pattern rows run row are is own =
    let of = (joined (lane_of day pattern rows) run is).1 in
    record {
      each = All-push (IsRow (length pattern)) rows row are.each (own_row pattern run row of own);
      lane = subst IsLane (sym (lane_more day pattern rows run row of own)) is;
    }

-- the tests of a run which may join, put together
pub fits_if : (day : ℤ) (pattern : List Spot) (rows : List Row) (run : Run) → AreRows day pattern rows → run.name.day ≡ day → pattern_of run ≡ pattern
    → (IsLastBefore rows run.calls ↔ IsLane (with_run (lane_of day pattern rows) run))
fits_if day pattern rows run are same of = (
  (λ before. joins (lane_of day pattern rows) run are.lane same of (λ k last whole at.
      let less : k < length rows = omega (arith, whole, length-map rows (run_of pattern)) in
      let row = found rows k less in
      let here : run_of pattern row.0 ≡ last = same_Some _ _ (sym (slice_get-map (run_of pattern) rows k ∙ ap (option_map (run_of pattern)) row.1) ∙ at) in
      let end : length rows ≡ k + 1 = omega (arith, whole, length-map rows (run_of pattern)) in
      subst (λ (r : Run). IsNoEarlier r run) here ((at_row k row.0 less row.1).0 (before k row.0 end row.1)))),
  (λ is k row whole at.
      let less : k < length rows = omega arith in
      let run-at : slice_get (map (run_of pattern) rows) k ≡ Some (run_of pattern row) = slice_get-map (run_of pattern) rows k ∙ ap (option_map (run_of pattern)) at in
      (at_row k row less at).1 ((joined (lane_of day pattern rows) run is).2 k (run_of pattern row) (length-map rows (run_of pattern) ∙ whole) run-at)),
)
  where
    found : (rows : List Row) (k : ℕ) → k < length rows → (row : Row) × (slice_get rows k ≡ Some row)
    found [] k less = absurd (omega arith)
    found (row ∷ rows) zero less = (row, refl)
    found (row ∷ rows) (suc k) less = found rows k (omega arith)

    at_row : (k : ℕ) (row : Row) → k < length rows → slice_get rows k ≡ Some row → (IsRowBefore row run.calls ↔ IsNoEarlier (run_of pattern row) run)
    at_row k row less at =
        let is = are.each k row less in
        let here : get_or rows k row ≡ row = get_or_from_slice_get rows k row row at in
        let run-is = are.lane.pattern k (run_of pattern row) (omega (arith, length-map rows (run_of pattern))) in
        let run-here : get_or (map (run_of pattern) rows) k (run_of pattern row) ≡ run_of pattern row = get_or-map (run_of pattern) rows k row (run_of pattern row) less ∙ ap (run_of pattern) here in
        no_earlier pattern row run (subst (IsRow (length pattern)) here is) of (subst (λ (r : Run). pattern_of r ≡ pattern) run-here run-is)
