-- Chains of rows, one row further.
use Rattle.std.proofs.Common.{◌≡◌, ℕ, suc, zero, ◌+◌, ◌-◌, ◌<◌, ◌≤◌, cond, List, [], ◌∷◌, ◌++◌, length, reverse, Some, get_or, set, take, refl, sym, subst, ap, ◌∙◌, inl, inr, arith}
use Rattle.std.specs.List.{All, slice_get}
use Rattle.std.specs.Prelude.{nat_eq}
use Rattle.std.proofs.lemmas.Bool.{cases_eq, eq-eqb, ne_eqb}
use Rattle.std.proofs.lemmas.List.Elements.{filter-append}
use Rattle.std.proofs.lemmas.List.{append-nil, reverse-append, take_more, take_all, get_or-set_other, get_or-set_same, length-set, length_push}
use Rattle.std.proofs.lemmas.Option.{get_or_from_slice_get, slice_get-get_or, slice_get_within}
use Rattle.otp_base.specs.EachAt.{EachAt}
use Rattle.otp_base.proofs.EachAtLemmas.{each_none, each_push, each_read}
use Rattle.feed_load.specs.ByTrip.{IsChain, IsIndexTo, rows_by}
use Rattle.feed_load.specs.declared.by_trip.TripIndex.{TripIndex}

-- what stands in a list stands there when it grows
kept_at : {X : Type 0} (xs : List X) (y : X) (n : ℕ) (x : X) → slice_get xs n ≡ Some x → slice_get (xs ++ y ∷ []) n ≡ Some x
kept_at [] y n x h = absurd (cc h)
kept_at (z ∷ xs) y zero x h = h
kept_at (z ∷ xs) y (suc n) x h = kept_at xs y n x h

last_at : {X : Type 0} (xs : List X) (y : X) → slice_get (xs ++ y ∷ []) (length xs) ≡ Some y
last_at [] y = refl
last_at (x ∷ xs) y = last_at xs y

module _ {Row : Type 0} (rows : List Row) where
  kept_chain : (before : List ℕ) (next from : ℕ) (own : List Row) → IsChain rows before from own → IsChain rows (before ++ next ∷ []) from own
  kept_chain before next from [] h = h
  kept_chain before next from (row ∷ rest) h =
      (h.0, h.1, h.2, h.3, kept_at before next h.0 h.1 h.4, kept_chain before next h.1 rest h.5)

  -- a chain begins at a place that was seen
  below : (before : List ℕ) (from : ℕ) (own : List Row) → IsChain rows before from own → from ≤ length before
  below before from [] h = omega (arith, h)
  below before from (row ∷ rest) h = omega (arith, h.2, slice_get_within before h.0 h.1 h.4)

  -- where a chain goes on, its first row and the chain behind it
  pub record IsLink (before : List ℕ) (from : ℕ) (own : List Row) : Type 0 where
    pub row : Row
    pub rest : List Row
    pub next : ℕ
    pub own_is : own ≡ row ∷ rest
    pub row_at : slice_get rows (from - 1) ≡ Some row
    pub next_at : slice_get before (from - 1) ≡ Some next
    pub chain : IsChain rows before next rest

  pub link_at : (before : List ℕ) (from : ℕ) (own : List Row) → 0 < from → IsChain rows before from own → IsLink before from own
  link_at before from [] some h = absurd (omega (arith, some, h))
  link_at before from (row ∷ rest) some h =
      let back : h.0 ≡ from - 1 = omega (arith, h.2) in
      record {
        row = row;
        rest = rest;
        next = h.1;
        own_is = refl;
        row_at = subst (λ (n : ℕ). slice_get rows n ≡ Some row) back h.3;
        next_at = subst (λ (n : ℕ). slice_get before n ≡ Some h.1) back h.4;
        chain = h.5;
      }

  -- and where it ends there is no more row
  pub chain_done : (before : List ℕ) (from : ℕ) (own : List Row) → from ≡ 0 → IsChain rows before from own → own ≡ []
  chain_done before from [] none h = refl
  chain_done before from (row ∷ rest) none h = absurd (omega (arith, none, h.2))

  pub link_row : (before : List ℕ) (from : ℕ) (own : List Row) (d : Row) (link : IsLink before from own) → d ≡ get_or rows (from - 1) d → d ≡ link.row
  link_row before from own d link is = is ∙ get_or_from_slice_get rows (from - 1) link.row d link.row_at

  pub link_next : (before : List ℕ) (from : ℕ) (own : List Row) (d : ℕ) (link : IsLink before from own) → d ≡ get_or before (from - 1) d → d ≡ link.next
  link_next before from own d link is = is ∙ get_or_from_slice_get before (from - 1) link.next d link.next_at

module _ {Row : Type 0} (trip_of : Row → ℕ) (trips : ℕ) (rows : List Row) where
  -- before any row each chain is empty
  pub of_none : (index : TripIndex) → length index.last.items ≡ trips → All (λ from. from ≡ 0) index.last.items → index.before.items ≡ [] → IsIndexTo trip_of trips rows 0 index
  of_none index are none empty = record {
    trips_are = are;
    rows_are = ap length empty;
    falls = subst (EachAt (λ place next. next ≤ place)) (sym empty) (each_none (λ place next. next ≤ place));
    chains = λ trip from h. sym (get_or_from_slice_get index.last.items trip from from h) ∙ none trip from (slice_get_within index.last.items trip from h);
  }

  own_more : (count trip : ℕ) (row : Row) → count < length rows → row ≡ get_or rows count row
      → rows_by trip_of (take (count + 1) rows) trip ≡ rows_by trip_of (take count rows) trip ++ cond (nat_eq trip (trip_of row)) (row ∷ []) []
  own_more count trip row less is =
      let more : take (count + 1) rows ≡ take count rows ++ row ∷ [] = take_more rows count row less ∙ ap (λ (r : Row). take count rows ++ r ∷ []) (sym is) in
      ap (λ (seen : List Row). rows_by trip_of seen trip) more ∙ filter-append (λ (r : Row). nat_eq trip (trip_of r)) (take count rows) (row ∷ [])

  -- one row more
  pub noted : (count : ℕ) (row : Row) (index new : TripIndex) → count < length rows → row ≡ get_or rows count row → trip_of row < trips → IsIndexTo trip_of trips rows count index
      → new.before.items ≡ index.before.items ++ get_or index.last.items (trip_of row) 0 ∷ []
      → new.last.items ≡ set index.last.items (trip_of row) (length index.before.items + 1) → IsIndexTo trip_of trips rows (count + 1) new
  noted count row index new less is within was before last = record {
    trips_are = ap length last ∙ (length-set index.last.items here (length index.before.items + 1) ∙ was.trips_are);
    rows_are = ap length before ∙ (length_push index.before.items old ∙ (let same = was.rows_are in omega arith));
    falls = subst (EachAt (λ place next. next ≤ place)) (sym before) (each_push (λ place next. next ≤ place) index.before.items old was.falls low);
    chains = λ trip from h. chain trip from (subst (λ (numbers : List ℕ). slice_get numbers trip ≡ Some from) last h);
  }
    where
      here : ℕ
      here = trip_of row

      old : ℕ
      old = get_or index.last.items here 0

      few : here < length index.last.items
      few = omega (arith, within, was.trips_are)

      Own : ℕ → List Row
      Own trip = reverse (rows_by trip_of (take count rows) trip)

      old_chain : IsChain rows index.before.items old (Own here)
      old_chain = each_read (λ (trip from : ℕ). IsChain rows index.before.items from (Own trip)) index.last.items here 0 was.chains few

      low : old ≤ length index.before.items
      low = below rows index.before.items old (Own here) old_chain

      row_at : slice_get rows count ≡ Some row
      row_at = slice_get-get_or rows count row less ∙ ap (λ (r : Row). Some r) (sym is)

      longer : (from : ℕ) (own : List Row) → IsChain rows index.before.items from own → IsChain rows new.before.items from own
      longer from own h = subst (λ (numbers : List ℕ). IsChain rows numbers from own) (sym before) (kept_chain rows index.before.items old from own h)

      own_one : rows_by trip_of (take count rows) here ++ cond (nat_eq here here) (row ∷ []) [] ≡ rows_by trip_of (take count rows) here ++ row ∷ []
      own_one = rw (eq-eqb here here refl) refl

      own_next : reverse (rows_by trip_of (take (count + 1) rows) here) ≡ row ∷ Own here
      own_next = ap reverse (own_more count here row less is ∙ own_one) ∙ reverse-append (rows_by trip_of (take count rows) here) (row ∷ [])

      next_at : slice_get new.before.items count ≡ Some old
      next_at = subst (λ (n : ℕ). slice_get new.before.items n ≡ Some old) was.rows_are (subst (λ (numbers : List ℕ). slice_get numbers (length index.before.items) ≡ Some old) (sym before) (last_at index.before.items old))

      chain : (trip from : ℕ) → slice_get (set index.last.items here (length index.before.items + 1)) trip ≡ Some from
          → IsChain rows new.before.items from (reverse (rows_by trip_of (take (count + 1) rows) trip))
      chain trip from h =
          let read = get_or_from_slice_get (set index.last.items here (length index.before.items + 1)) trip from from h in
          elim (cases_eq trip here) [
            | inl same ↦
                let first : length index.before.items + 1 ≡ from =
                sym (get_or-set_same index.last.items here (length index.before.items + 1) from few)
                ∙ (ap (λ (n : ℕ). get_or (set index.last.items here (length index.before.items + 1)) n from) (sym same) ∙ read) in
                let at : from ≡ count + 1 = let seen = was.rows_are in omega (arith, first, seen) in
                subst (λ (n : ℕ). IsChain rows new.before.items from (reverse (rows_by trip_of (take (count + 1) rows) n))) (sym same)
                (subst (IsChain rows new.before.items from) (sym own_next) (count, old, at, row_at, next_at, longer old (Own here) old_chain))
            | inr other ↦
                let within_too : trip < length index.last.items =
                omega (arith, slice_get_within (set index.last.items here (length index.before.items + 1)) trip from h, length-set index.last.items here (length index.before.items + 1)) in
                let kept : get_or index.last.items trip from ≡ from = sym (get_or-set_other index.last.items here trip (length index.before.items + 1) from other) ∙ read in
                let old_at : slice_get index.last.items trip ≡ Some from = slice_get-get_or index.last.items trip from within_too ∙ ap (λ (n : ℕ). Some n) kept in
                let same_rows : rows_by trip_of (take (count + 1) rows) trip ≡ rows_by trip_of (take count rows) trip =
                own_more count trip row less is ∙ (rw (ne_eqb trip here other) (append-nil (rows_by trip_of (take count rows) trip))) in
                subst (λ (own : List Row). IsChain rows new.before.items from (reverse own)) (sym same_rows) (longer from (Own trip) (was.chains trip from old_at))
          ]

  -- where the walk of a trip's rows begins
  pub starts_at : (index : TripIndex) (trip d : ℕ) → IsIndexTo trip_of trips rows (length rows) index → trip < trips
      → IsChain rows index.before.items (get_or index.last.items trip d) (reverse (rows_by trip_of rows trip))
  starts_at index trip d is within =
      let few : trip < length index.last.items = omega (arith, within, is.trips_are) in
      subst (λ (all : List Row). IsChain rows index.before.items (get_or index.last.items trip d) (reverse (rows_by trip_of all trip))) (take_all (length rows) rows (omega arith))
      (each_read (λ (n from : ℕ). IsChain rows index.before.items from (reverse (rows_by trip_of (take (length rows) rows) n))) index.last.items trip d is.chains few)
