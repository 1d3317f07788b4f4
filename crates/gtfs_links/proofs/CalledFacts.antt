-- Each trip kept has two calls at least, and no two of one sequence.
use Rattle.std.proofs.Common.{◌≡◌, ℕ, ◌+◌, ◌<◌, ◌≤◌, List, [], ◌∷◌, ◌++◌, length, map, get_or, suc, zero, Bool, true, false, cond, not, ◌&&◌, None, Some, refl, sym, ◌∙◌, arith, eq-eqb, true≢false}
use Rattle.std.specs.Option.{option_to_list}
use Rattle.std.specs.Prelude.{count_by, nat_eq, if◌then◌else◌}
use Rattle.std.specs.List.{All, AllPairs, filter, list_any}
use Rattle.std.specs.Str.{bytes_eq}
use Rattle.std.proofs.lemmas.Bool.{false_from_ne_true, leb-true}
use Rattle.std.proofs.lemmas.List.Elements.{All-cons, All-head, All-nil, All-tail}
use Rattle.std.proofs.lemmas.List.Kept.{AllPairs-cons}
use Rattle.std.proofs.lemmas.List.Sums.{sum_by-cons}
use Rattle.name_index.proofs.TestFacts.{bytes_eq-refl, or-left, or-right, same_bytes}
use Rattle.otp_model.specs.Sights.{has_name, place_of}
use Rattle.otp_model.specs.declared.links.TimeRow.{TimeRow}
use Rattle.otp_model.specs.declared.tables.StopRow.{StopRow}
use Rattle.otp_model.specs.declared.tables.StopTimeRow.{StopTimeRow}
use Rattle.otp_model.specs.declared.tables.TripRow.{TripRow}
use Rattle.gtfs_links.specs.Linked.{is_call_of, is_kept, time_at, times_from}
use Rattle.gtfs_links.specs.Resolved.{AreOtherCalls, is_time_of}
use Rattle.gtfs_links.specs.Rules.{id_of_trip, is_empty, is_same_call}
use Rattle.gtfs_links.proofs.CheckFacts.{has_own}
use Rattle.gtfs_links.proofs.DistinctFacts.{AreApart}
use Rattle.gtfs_links.proofs.KeyFacts.{same_place}

-- an earlier call, and a later one that isn't the same
abbrev pub IsApartFrom : StopTimeRow → StopTimeRow → Type 0
IsApartFrom earlier later = is_same_call later earlier ≡ false

pub none_same : (row : StopTimeRow) (before : List StopTimeRow) → list_any (is_same_call row) before ≡ false → (k : ℕ) (d : StopTimeRow) → k < length before → IsApartFrom (get_or before k d) row
none_same row [] h k d l = absurd (omega (arith, l))
none_same row (other ∷ before) h zero d l = or-left (is_same_call row other) (list_any (is_same_call row) before) h
none_same row (other ∷ before) h (suc k) d l = none_same row before (or-right (is_same_call row other) (list_any (is_same_call row) before) h) k d (omega (arith, l))

one_more : (c b : Bool) (m n : ℕ) → c ≡ b → m ≡ n → cond c 1 0 + m ≡ cond (b && true) 1 0 + n
one_more c true m n e f = rw (e, f) refl
one_more c false m n e f = rw (e, f) refl

module _ (stops : List StopRow) (ids kept : List (List ℕ)) where
  has_same : (id other : List ℕ) → has_name kept id ≡ true → bytes_eq id other ≡ true → has_name kept other ≡ true
  has_same id other h e = rw (← same_bytes id other e) h

  -- the calls of a trip kept are its rows that name a stop
  pub count_calls : (id : List ℕ) → has_name kept id ≡ true → (n : ℕ) (rows : List StopTimeRow) → count_by (is_time_of (place_of kept id)) (times_from stops ids kept n rows) ≡ count_by (is_call_of id) rows
  unfolding times_from
  count_calls id h n [] = refl
  count_calls id h n (row ∷ rows) =
      by (is_empty row.stop_id) (has_name kept row.trip_id) (bytes_eq id row.trip_id) refl refl (count_calls id h (n + 1) rows)
      ∙ sym (sum_by-cons (λ (r : StopTimeRow). cond (is_call_of id r) 1 0) row rows)
    where
      by : (empty k b : Bool) → has_name kept row.trip_id ≡ k → bytes_eq id row.trip_id ≡ b
          → count_by (is_time_of (place_of kept id)) (times_from stops ids kept (n + 1) rows) ≡ count_by (is_call_of id) rows
          → count_by (is_time_of (place_of kept id)) (option_to_list (if not empty && k then Some (time_at stops ids kept n row) else None) ++ times_from stops ids kept (n + 1) rows)
          ≡ cond (b && not empty) 1 0 + count_by (is_call_of id) rows
      by true k true e f go = omega (arith, go)
      by true k false e f go = omega (arith, go)
      by false false true e f go = absurd (true≢false (sym (has_same id row.trip_id h f) ∙ e))
      by false false false e f go = omega (arith, go)
      by false true b e f go =
          sum_by-cons (λ (time : TimeRow). cond (is_time_of (place_of kept id) time) 1 0) (time_at stops ids kept n row) (times_from stops ids kept (n + 1) rows)
          ∙ one_more (nat_eq (place_of kept id) (place_of kept row.trip_id)) b _ _ (same_place kept id row.trip_id e ∙ f) go

  -- a row of another trip or sequence is another call
  other_call : (n m : ℕ) (row later : StopTimeRow) → has_name kept row.trip_id ≡ true → IsApartFrom row later → AreOtherCalls (time_at stops ids kept n row) (time_at stops ids kept m later)
  other_call n m row later h apart trips seqs =
      let trip : bytes_eq later.trip_id row.trip_id ≡ true = sym (same_place kept later.trip_id row.trip_id h) ∙ eq-eqb (place_of kept later.trip_id) (place_of kept row.trip_id) (sym trips) in
      let seq : nat_eq later.stop_sequence row.stop_sequence ≡ true = eq-eqb later.stop_sequence row.stop_sequence (sym seqs) in
      let same : is_same_call later row ≡ true = rw (trip, seq) refl in
      true≢false (sym same ∙ apart)

  others : (n m : ℕ) (row : StopTimeRow) (rows : List StopTimeRow) → has_name kept row.trip_id ≡ true → All (IsApartFrom row) rows → All (AreOtherCalls (time_at stops ids kept n row)) (times_from stops ids kept m rows)
  unfolding times_from
  others n m row [] h apart = All-nil (AreOtherCalls (time_at stops ids kept n row))
  others n m row (later ∷ rows) h apart = by (not (is_empty later.stop_id) && has_name kept later.trip_id) (others n (m + 1) row rows h (All-tail (IsApartFrom row) later rows apart))
    where
      by : (b : Bool) → All (AreOtherCalls (time_at stops ids kept n row)) (times_from stops ids kept (m + 1) rows)
          → All (AreOtherCalls (time_at stops ids kept n row)) (option_to_list (if b then Some (time_at stops ids kept m later) else None) ++ times_from stops ids kept (m + 1) rows)
      by true more =
          All-cons (AreOtherCalls (time_at stops ids kept n row)) (time_at stops ids kept m later) (times_from stops ids kept (m + 1) rows)
          (other_call n m row later h (All-head (IsApartFrom row) later rows apart)) more
      by false more = more

  pub calls_apart : (n : ℕ) (rows : List StopTimeRow) → AllPairs IsApartFrom rows → AllPairs AreOtherCalls (times_from stops ids kept n rows)
  unfolding times_from
  calls_apart n [] apart = λ i j d l m. absurd (omega (arith, m))
  calls_apart n (row ∷ rows) apart =
      by (is_empty row.stop_id) (has_name kept row.trip_id) refl
      (calls_apart (n + 1) rows (λ i j d l m. apart (suc i) (suc j) d (omega (arith, l)) (omega (arith, m))))
    where
      by : (empty k : Bool) → has_name kept row.trip_id ≡ k → AllPairs AreOtherCalls (times_from stops ids kept (n + 1) rows)
          → AllPairs AreOtherCalls (option_to_list (if not empty && k then Some (time_at stops ids kept n row) else None) ++ times_from stops ids kept (n + 1) rows)
      by true k e more = more
      by false false e more = more
      by false true e more =
          AllPairs-cons AreOtherCalls (time_at stops ids kept n row) (times_from stops ids kept (n + 1) rows)
          (others n (n + 1) row rows e (λ k d l. apart zero (suc k) d (omega arith) (omega (arith, l)))) more

-- where ids differ, each stands at the number of its row
pub place_at : {R : Type 0} (id_of : R → List ℕ) (rows : List R) → AreApart id_of rows → (k : ℕ) (d : R) → k < length rows → place_of (map id_of rows) (id_of (get_or rows k d)) ≡ k
unfolding place_of
place_at id_of [] apart k d l = absurd (omega (arith, l))
place_at id_of (row ∷ rows) apart zero d l = rw (bytes_eq-refl (id_of row)) refl
place_at id_of (row ∷ rows) apart (suc k) d l =
    let other : bytes_eq (id_of (get_or rows k d)) (id_of row) ≡ false =
    false_from_ne_true (bytes_eq (id_of (get_or rows k d)) (id_of row)) (λ t. apart zero (suc k) d (omega arith) l (sym (same_bytes (id_of (get_or rows k d)) (id_of row) t))) in
    rw other (omega (arith, place_at id_of rows (λ i j e m o. apart (suc i) (suc j) e (omega (arith, m)) (omega (arith, o))) k d (omega (arith, l))))

all_kept : (times : List StopTimeRow) (rows : List TripRow) → All (λ (trip : TripRow). is_kept times trip ≡ true) (filter (is_kept times) rows)
all_kept times [] = All-nil (λ (trip : TripRow). is_kept times trip ≡ true)
all_kept times (trip ∷ rows) = by (is_kept times trip) refl (all_kept times rows)
  where
    by : (b : Bool) → is_kept times trip ≡ b → All (λ (t : TripRow). is_kept times t ≡ true) (filter (is_kept times) rows)
        → All (λ (t : TripRow). is_kept times t ≡ true) (cond b (trip ∷ filter (is_kept times) rows) (filter (is_kept times) rows))
    by true e more = All-cons (λ (t : TripRow). is_kept times t ≡ true) trip (filter (is_kept times) rows) e more
    by false e more = more

two_calls : (stops : List StopRow) (ids : List (List ℕ)) (times : List StopTimeRow) (rows : List TripRow) → AreApart id_of_trip rows → All (λ (trip : TripRow). is_kept times trip ≡ true) rows
    → (k : ℕ) → k < length rows → 2 ≤ count_by (is_time_of k) (times_from stops ids (map id_of_trip rows) 1 times)
two_calls stops ids times [] apart fine k l = absurd (omega (arith, l))
two_calls stops ids times (trip ∷ rows) apart fine k l =
    let id : List ℕ = id_of_trip (get_or (trip ∷ rows) k trip) in
    let at : place_of (map id_of_trip (trip ∷ rows)) (id_of_trip (get_or (trip ∷ rows) k trip)) ≡ k = place_at id_of_trip (trip ∷ rows) apart k trip l in
    let counted = count_calls stops ids (map id_of_trip (trip ∷ rows)) (id_of_trip (get_or (trip ∷ rows) k trip)) (has_own id_of_trip (trip ∷ rows) k trip l) 1 times in
    let own = rw at at counted in
    rw own (leb-true 2 _ (fine k trip l))

pub called_twice : (stops : List StopRow) (ids : List (List ℕ)) (times : List StopTimeRow) (rows : List TripRow) → AreApart id_of_trip (filter (is_kept times) rows)
    → (k : ℕ) → k < length (filter (is_kept times) rows) → 2 ≤ count_by (is_time_of k) (times_from stops ids (map id_of_trip (filter (is_kept times) rows)) 1 times)
called_twice stops ids times rows apart k l = two_calls stops ids times (filter (is_kept times) rows) apart (all_kept times rows) k l
