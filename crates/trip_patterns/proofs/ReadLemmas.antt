-- What is read of a lane.
use Rattle.std.proofs.Common.{◌≡◌, ℕ, ◌<◌, ℤ, pos, ◌≤ℤ◌, ◌<ℤ◌, List, [], ◌∷◌, length, map, get_or, Some, None, refl, sym, ap, subst, ◌∙◌, arith}
use Rattle.std.specs.List.{slice_get}
use Rattle.std.specs.Option.{option_map, option_map_or}
use Rattle.std.proofs.lemmas.List.{get_or-map, length-map, same_lists}
use Rattle.std.proofs.lemmas.Option.{get_or_from_slice_get, slice_get-get_or, slice_get-map, slice_get_within}
use Rattle.lane_kernels.specs.Columns.{IsFirstAtLeast}
use Rattle.otp_model.specs.Patterns.{Spot}
use Rattle.otp_model.specs.declared.run_name.TripName.TheVariants.{Planned}
use Rattle.otp_model.specs.declared.timetable.Call.{Call}
use Rattle.otp_model.specs.declared.timetable.Run.{Run}
use Rattle.trip_patterns.specs.declared.row.Row.{Row}
use Rattle.trip_patterns.specs.Lanes.{IsCallAt, IsFirstCatch, departure_at}
use Rattle.trip_patterns.specs.Rows.{AreRows, IsRow, calls_of, column, run_of}
use Rattle.trip_patterns.proofs.CallLemmas.{row_call}

no_row : Row
no_row = record { name = record { trip = Planned 0; day = pos 0; start = None }; seqs = []; arrivals = []; departures = [] }

-- the run of the row that an index reads
pub run_at : (pattern : List Spot) (rows : List Row) (n : ℕ) (row : Row) → n < length rows → row ≡ get_or rows n row → slice_get (map (run_of pattern) rows) n ≡ Some (run_of pattern row)
run_at pattern rows n row less read =
    slice_get-map (run_of pattern) rows n ∙ ap (option_map (run_of pattern)) (slice_get-get_or rows n row less ∙ ap (λ (r : Row). Some r) (sym read))

pub row_at : (day : ℤ) (pattern : List Spot) (rows : List Row) (n : ℕ) (row : Row) → AreRows day pattern rows → n < length rows → row ≡ get_or rows n row → IsRow (length pattern) row
row_at day pattern rows n row are less read = subst (IsRow (length pattern)) (sym read) (are.each n row less)

arrivals_of : (p : List Spot) (s : List ℕ) (a d : List ℤ) → length s ≡ length p → length a ≡ length p → length d ≡ length p
    → a ≡ map (λ (call : Call). call.arrival) (calls_of p s a d)
arrivals_of [] s [] d hs ha hd = refl
arrivals_of [] s (z ∷ a) d hs ha hd = absurd (omega arith)
arrivals_of (x ∷ p) [] a d hs ha hd = absurd (omega arith)
arrivals_of (x ∷ p) (y ∷ s) [] d hs ha hd = absurd (omega arith)
arrivals_of (x ∷ p) (y ∷ s) (z ∷ a) [] hs ha hd = absurd (omega arith)
arrivals_of (x ∷ p) (y ∷ s) (z ∷ a) (w ∷ d) hs ha hd = ap (λ (as' : List ℤ). z ∷ as') (arrivals_of p s a d (omega arith) (omega arith) (omega arith))

pub own_arrivals : (pattern : List Spot) (row : Row) → IsRow (length pattern) row → row.arrivals ≡ map (λ (call : Call). call.arrival) (run_of pattern row).calls
own_arrivals pattern row is = arrivals_of pattern row.seqs row.arrivals row.departures is.seqs is.arrivals is.departures

-- a column is when the runs depart
pub column_is : (day : ℤ) (pattern : List Spot) (rows : List Row) (position : ℕ) → AreRows day pattern rows → position < length pattern
    → column rows position ≡ map (departure_at position) (map (run_of pattern) rows)
column_is day pattern rows position are less =
    same_lists (column rows position) (map (departure_at position) (map (run_of pattern) rows))
    (length-map rows _ ∙ sym (length-map (map (run_of pattern) rows) (departure_at position) ∙ length-map rows (run_of pattern)))
    (λ k d within.
    let under : k < length rows = omega (arith, within, length-map rows (λ (row : Row). get_or row.departures position (pos 0))) in
    at k d under)
  where
    at : (k : ℕ) (d : ℤ) → k < length rows → get_or (column rows position) k d ≡ get_or (map (departure_at position) (map (run_of pattern) rows)) k d
    at k d under =
        let row : Row = get_or rows k no_row in
        let is : IsRow (length pattern) row = are.each k no_row under in
        get_or-map _ rows k no_row d under
        ∙ sym (get_or-map (departure_at position) (map (run_of pattern) rows) k (run_of pattern no_row) d (omega (arith, length-map rows (run_of pattern)))
        ∙ ap (departure_at position) (get_or-map (run_of pattern) rows k no_row (run_of pattern no_row) under)
        ∙ ap (λ o. option_map_or (λ (call : Call). call.departure) o (pos 0)) (row_call pattern row position is less))

departs : (runs : List Run) (position row : ℕ) (call : Call) → IsCallAt runs row position call → get_or (map (departure_at position) runs) row (pos 0) ≡ call.departure
departs runs position row call at =
    let less = slice_get_within runs row at.run at.run_is in
    get_or-map (departure_at position) runs row at.run (pos 0) less
    ∙ ap (departure_at position) (get_or_from_slice_get runs row at.run at.run at.run_is)
    ∙ ap (λ o. option_map_or (λ (call : Call). call.departure) o (pos 0)) at.call_is

-- the first departure that is late enough is that of the first row that is caught
pub first_is_caught : (runs : List Run) (position : ℕ) (time : ℤ) (column : List ℤ) (row : ℕ) → column ≡ map (departure_at position) runs
    → IsFirstAtLeast column time row → IsFirstCatch runs position time row
first_is_caught runs position time column row is first =
    let long : length column ≡ length runs = ap length is ∙ length-map runs (departure_at position) in
    record {
      within = omega (arith, first.within);
      missed = λ earlier call less at. subst (λ (t : ℤ). t <ℤ time) (ap (λ (xs : List ℤ). get_or xs earlier (pos 0)) is ∙ departs runs position earlier call at) (first.before earlier less);
      caught = λ call at. subst (λ (t : ℤ). time ≤ℤ t) (ap (λ (xs : List ℤ). get_or xs row (pos 0)) is ∙ departs runs position row call at)
          (first.here (let less = slice_get_within runs row at.run at.run_is in omega arith));
    }
