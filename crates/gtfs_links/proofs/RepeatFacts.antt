-- The first row that has the key of an earlier one, as the two ways to look for it find it.
use Rattle.std.proofs.Common.{◌≡◌, ℕ, ℤ, ◌+◌, ◌<◌, ◌≤◌, ◌≢◌, List, length, get_or, set, take, Bool, true, false, ◌&&◌, Option, Some, None, inl, inr, refl, sym, subst, ◌∙◌, arith, true≢false, get_or-set_other, get_or-set_same}
use Rattle.std.specs.Prelude.{nat_eq, nat_le, slice_get, ◌≤ℤ◌, ◌<ℤ◌}
use Rattle.std.specs.Int.Signed.{≤ℤ_refl}
use Rattle.std.specs.List.{All, list_any}
use Rattle.std.specs.Ordering.{int_eq}
use Rattle.std.proofs.lemmas.Bool.{cases_lt, eqb-false, eqb-true, false_from_ne_true, le-leb, lt-leb}
use Rattle.std.proofs.lemmas.Bool.Decides.{Decides-int_eq}
use Rattle.std.proofs.lemmas.Int.{ints}
use Rattle.std.proofs.lemmas.List.{get_or-take, length-take-le}
use Rattle.std.proofs.lemmas.List.Folds.{list_any_none}
use Rattle.std.proofs.lemmas.Option.{slice_get-get_or, slice_get_past}
use Rattle.otp_model.specs.Sights.{place_of}
use Rattle.gtfs_links.specs.Index.{HasId}
use Rattle.gtfs_links.specs.Keys.{AreApartBefore, IsFirstRepeat, is_same_key}
use Rattle.gtfs_links.proofs.FaultFacts.{row_at}
use Rattle.gtfs_links.proofs.KeyFacts.{any_same}

pub same_item : {X : Type 0} (x y : X) → Some x ≡ Some y → x ≡ y
same_item x y h = cc h

-- what holds of each row before a place holds of the rows up to there
pub all_before : {R : Type 0} (P : R → Type 0) (rows : List R) (i : ℕ) → i ≤ length rows → ((k : ℕ) (row : R) → k < i → slice_get rows k ≡ Some row → P row) → All P (take i rows)
all_before P rows i l each k d less =
    let before : k < i = omega (arith, less, length-take-le i rows l) in
    let inside : k < length rows = omega (arith, before, l) in
    rw (get_or-take i rows k d before) (each k (get_or rows k d) before (slice_get-get_or rows k d inside))

module _ {R : Type 0} (same : R → R → Bool) (rows : List R) where
  pub apart_next : (i : ℕ) (row : R) → slice_get rows i ≡ Some row → AreApartBefore same rows i → list_any (same row) (take i rows) ≡ false → AreApartBefore same rows (i + 1)
  apart_next i row at apart new k other less here = elim (cases_lt k i) [
    | inl before ↦ apart k other before here
    | inr later ↦
        let place : k ≡ i = omega (arith, less, later) in
        let is : row ≡ other = same_item row other (sym at ∙ rw place at here) in
        rw place (subst (λ (r : R). list_any (same r) (take i rows) ≡ false) is new)
  ]

  -- a row that has the key of an earlier one, where none before it has
  pub repeat_found : (i : ℕ) (row : R) → slice_get rows i ≡ Some row → AreApartBefore same rows i → list_any (same row) (take i rows) ≡ true → IsFirstRepeat same rows i
  repeat_found i row at apart had = record {
    apart = apart;
    repeated = λ other here. subst (λ (r : R). list_any (same r) (take i rows) ≡ true) (same_item row other (sym at ∙ here)) had;
  }

  -- where none before a row repeats, it does exactly where the first that does isn't behind it
  pub repeat_placed : (first : ℕ) → IsFirstRepeat same rows first → (i : ℕ) (row : R) → i < length rows → slice_get rows i ≡ Some row → AreApartBefore same rows i → nat_le first i ≡ list_any (same row) (take i rows)
  repeat_placed first repeat i row l at apart = elim (cases_lt i first) [
    | inl before ↦ lt-leb first i before ∙ sym (repeat.apart i row before at)
    | inr after ↦ elim (cases_lt first i) [
      | inl beyond ↦
          let there = row_at rows first (omega (arith, beyond, l)) in
          absurd (true≢false (sym (repeat.repeated there.0 there.1) ∙ apart first there.0 beyond there.1))
      | inr within ↦
          let place : first ≡ i = omega (arith, after, within) in
          le-leb first i after ∙ sym (rw place at (repeat.repeated row (rw place at)))
    ]
  ]

  -- no row has
  pub repeat_none : (i : ℕ) → length rows ≤ i → AreApartBefore same rows i → IsFirstRepeat same rows (length rows)
  repeat_none i l apart = record {
    apart = λ k row less. apart k row (omega (arith, less, l));
    repeated = λ row at. absurd (past (slice_get rows (length rows)) row at (slice_get_past rows (length rows) (omega arith)));
  }
    where
      past : (o : Option R) (row : R) → o ≡ Some row → o ≡ None → ⊥
      past o row some none = cc (some, none)

module _ {R : Type 0} (names : List (List ℕ)) (id_of : R → List ℕ) (part_of : R → ℤ) (rows : List R) where
  abbrev same_key : R → R → Bool
  same_key = is_same_key names id_of part_of

  -- the rows before a place rise, and so far the greatest part of each record's rows is this
  pub record IsRising (greatest : List ℤ) (i : ℕ) : Type 0 where
    pub reached : (k : ℕ) (row : R) → k < i → slice_get rows k ≡ Some row → (d : ℤ) → part_of row ≤ℤ get_or greatest (place_of names (id_of row)) d
    pub apart : AreApartBefore same_key rows i

  module _ (greatest : List ℤ) (i : ℕ) (row : R) (l : i < length rows) (at : slice_get rows i ≡ Some row) (above : (d : ℤ) → get_or greatest (place_of names (id_of row)) d <ℤ part_of row) (h : IsRising greatest i) where
    other_key : (other : R) (k : ℕ) → k < i → slice_get rows k ≡ Some other → same_key row other ≡ false
    other_key other k less here = by (nat_eq (place_of names (id_of row)) (place_of names (id_of other))) refl
      where
        by : (b : Bool) → nat_eq (place_of names (id_of row)) (place_of names (id_of other)) ≡ b → (b && int_eq (part_of row) (part_of other)) ≡ false
        by false e = refl
        by true e = false_from_ne_true (int_eq (part_of row) (part_of other)) (λ t.
            let owners : place_of names (id_of row) ≡ place_of names (id_of other) = eqb-true (place_of names (id_of row)) (place_of names (id_of other)) e in
            let parts : part_of row ≡ part_of other = (Decides-int_eq (part_of row) (part_of other)).0 t in
            let low : part_of other ≤ℤ get_or greatest (place_of names (id_of row)) (part_of row) = rw owners (h.reached k other less here (part_of row)) in
            let high : get_or greatest (place_of names (id_of row)) (part_of row) <ℤ part_of row = above (part_of row) in
            absurd (omega (arith, ints, low, high, parts)))

    none_before : list_any (same_key row) (take i rows) ≡ false
    none_before = list_any_none (same_key row) (take i rows) (all_before (λ (other : R). same_key row other ≡ false) rows i (omega (arith, l)) (λ k other less here. other_key other k less here))

    reached_next : place_of names (id_of row) < length greatest → (k : ℕ) (other : R) → k < i + 1 → slice_get rows k ≡ Some other → (d : ℤ)
        → part_of other ≤ℤ get_or (set greatest (place_of names (id_of row)) (part_of row)) (place_of names (id_of other)) d
    reached_next inside k other less here d = elim (cases_lt k i) [
      | inl before ↦ by before (nat_eq (place_of names (id_of other)) (place_of names (id_of row))) refl
      | inr later ↦
          let place : k ≡ i = omega (arith, less, later) in
          let is : row ≡ other = same_item row other (sym at ∙ rw place at here) in
          rw (← is) (rw get_or-set_same (≤ℤ_refl (part_of row)))
    ]
      where
        by : k < i → (b : Bool) → nat_eq (place_of names (id_of other)) (place_of names (id_of row)) ≡ b
            → part_of other ≤ℤ get_or (set greatest (place_of names (id_of row)) (part_of row)) (place_of names (id_of other)) d
        by before true e =
            let owners : place_of names (id_of other) ≡ place_of names (id_of row) = eqb-true (place_of names (id_of other)) (place_of names (id_of row)) e in
            let low : part_of other ≤ℤ get_or greatest (place_of names (id_of row)) d = rw owners at (h.reached k other before here d) in
            let high : get_or greatest (place_of names (id_of row)) d <ℤ part_of row = above d in
            rw owners (rw get_or-set_same (omega (arith, ints, low, high)))
        by before false e =
            let differs : place_of names (id_of other) ≢ place_of names (id_of row) = eqb-false (place_of names (id_of other)) (place_of names (id_of row)) e in
            rw get_or-set_other (h.reached k other before here d)

    pub rising_next : place_of names (id_of row) < length greatest → IsRising (set greatest (place_of names (id_of row)) (part_of row)) (i + 1)
    rising_next inside = record { reached = reached_next inside; apart = apart_next same_key rows i row at h.apart none_before }

  -- Where the names have the ids of the rows before, none of which repeats another by its texts, a row does by its
  -- texts exactly where the first that does by its numbers isn't behind it.
  pub repeat_told : (same : R → R → Bool) (agree : (row other : R) → HasId names id_of other → is_same_key names id_of part_of row other ≡ same row other) (first : ℕ) → IsFirstRepeat same_key rows first
      → (i : ℕ) (row : R) → i < length rows → slice_get rows i ≡ Some row → ((k : ℕ) (other : R) → k < i → slice_get rows k ≡ Some other → HasId names id_of other) → AreApartBefore same rows i
      → nat_le first i ≡ list_any (same row) (take i rows)
  repeat_told same agree first repeat i row l at known apart = elim (cases_lt i first) [
    | inl before ↦ lt-leb first i before ∙ (sym (repeat.apart i row before at) ∙ by_texts i row (omega (arith, l)) known)
    | inr after ↦ elim (cases_lt first i) [
      | inl beyond ↦
          let there = row_at rows first (omega (arith, beyond, l)) in
          let texts = by_texts first there.0 (omega (arith, beyond, l)) (λ k other less here. known k other (omega (arith, less, beyond)) here) in
          absurd (true≢false (sym (repeat.repeated there.0 there.1) ∙ (texts ∙ apart first there.0 beyond there.1)))
      | inr within ↦
          let place : first ≡ i = omega (arith, after, within) in
          le-leb first i after ∙ (sym (rw place at (repeat.repeated row (rw place at))) ∙ by_texts i row (omega (arith, l)) known)
    ]
  ]
    where
      by_texts : (n : ℕ) (r : R) → n ≤ length rows → ((k : ℕ) (other : R) → k < n → slice_get rows k ≡ Some other → HasId names id_of other) → list_any (same_key r) (take n rows) ≡ list_any (same r) (take n rows)
      by_texts n r less has = any_same names id_of part_of same agree r (take n rows) (all_before (HasId names id_of) rows n less has)
