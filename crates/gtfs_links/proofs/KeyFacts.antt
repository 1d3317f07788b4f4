-- Two rows have the same key of numbers where they have the same key of texts, if the index has one of them.
use Rattle.std.proofs.Common.{◌≡◌, ℕ, ◌+◌, List, [], ◌∷◌, length, map, Bool, true, false, cond, ◌||◌, ◌<◌, ◌≤◌, ◌++◌, get_or, take, pos, ℤ, refl, sym, ap, ◌∙◌, arith, eq-eqb}
use Rattle.std.specs.Prelude.{nat_eq, nat_lt}
use Rattle.std.specs.List.{All, list_any}
use Rattle.std.specs.Ordering.{int_eq}
use Rattle.std.specs.Str.{bytes_eq}
use Rattle.std.proofs.lemmas.Bool.{eqb-true, eqb-false, false_from_ne_true, le-ltb, lt-ltb}
use Rattle.name_index.proofs.TestFacts.{bytes_eq-refl, bytes_eq-other_way, or-left, or-right, same_bytes}
use Rattle.otp_model.specs.Sights.{has_name, place_of}
use Rattle.std.proofs.lemmas.Bool.Decides.{Decides-int_eq}
use Rattle.std.proofs.lemmas.List.{get_or-map, map_more}
use Rattle.std.proofs.lemmas.List.Elements.{All-head, All-tail}
use Rattle.name_index.proofs.SightFacts.{place-below}
use Rattle.otp_model.specs.declared.tables.DateRow.{DateRow}
use Rattle.otp_model.specs.declared.tables.FrequencyRow.{FrequencyRow}
use Rattle.otp_model.specs.declared.tables.StopTimeRow.{StopTimeRow}
use Rattle.gtfs_links.specs.Index.{HasId, service_of_date, trip_of_frequency, trip_of_time}
use Rattle.gtfs_links.specs.Keys.{is_key, is_same_key, key_in, numbers_in, with_key}
use Rattle.gtfs_links.specs.Numbers.{date_of, sequence_of, start_of}
use Rattle.gtfs_links.specs.Rules.{is_same_call, is_same_date, is_same_start}
use Rattle.gtfs_links.specs.declared.check.keys.Key.{Key}

eq-more : (p q : ℕ) → nat_eq (p + 1) (q + 1) ≡ nat_eq p q
eq-more p q = by (nat_eq p q) refl
  where
    by : (b : Bool) → nat_eq p q ≡ b → nat_eq (p + 1) (q + 1) ≡ b
    by true e = eq-eqb (p + 1) (q + 1) (omega (arith, eqb-true p q e))
    by false e = false_from_ne_true (nat_eq (p + 1) (q + 1)) (λ t. eqb-false p q e (omega (arith, eqb-true (p + 1) (q + 1) t)))

zero-more : (p : ℕ) → nat_eq 0 (p + 1) ≡ false
zero-more p = false_from_ne_true (nat_eq 0 (p + 1)) (λ t. absurd (omega (arith, eqb-true 0 (p + 1) t)))

more-zero : (p : ℕ) → nat_eq (p + 1) 0 ≡ false
more-zero p = false_from_ne_true (nat_eq (p + 1) 0) (λ t. absurd (omega (arith, eqb-true (p + 1) 0 t)))

pub same_place : (names : List (List ℕ)) (a b : List ℕ) → has_name names b ≡ true → nat_eq (place_of names a) (place_of names b) ≡ bytes_eq a b
unfolding place_of
same_place [] a b h = cc h
same_place (o ∷ names) a b h = by (bytes_eq a o) refl (bytes_eq b o) refl h (same_place names a b)
  where
    by : (x : Bool) → bytes_eq a o ≡ x → (y : Bool) → bytes_eq b o ≡ y → (y || has_name names b) ≡ true
        → (has_name names b ≡ true → nat_eq (place_of names a) (place_of names b) ≡ bytes_eq a b)
        → nat_eq (cond x 0 (place_of names a + 1)) (cond y 0 (place_of names b + 1)) ≡ bytes_eq a b
    by true e true f t go = let same : a ≡ b = same_bytes a o e ∙ sym (same_bytes b o f) in rw same (sym (bytes_eq-refl b))
    by true e false f t go = rw (same_bytes a o e) (zero-more (place_of names b) ∙ sym (bytes_eq-other_way b o f))
    by false e true f t go = rw (same_bytes b o f) (more-zero (place_of names a) ∙ sym e)
    by false e false f t go = eq-more (place_of names a) (place_of names b) ∙ go t

place-missing : (names : List (List ℕ)) (name : List ℕ) → has_name names name ≡ false → length names ≤ place_of names name
unfolding place_of
place-missing [] name h = omega arith
place-missing (other ∷ names) name h = rw (or-left (bytes_eq name other) (has_name names name) h) (omega (arith, place-missing names name (or-right (bytes_eq name other) (has_name names name) h)))

-- a name is there where its place is before the end
pub has_place : (names : List (List ℕ)) (name : List ℕ) → nat_lt (place_of names name) (length names) ≡ has_name names name
has_place names name = by (has_name names name) refl
  where
    by : (b : Bool) → has_name names name ≡ b → nat_lt (place_of names name) (length names) ≡ b
    by true e = lt-ltb (place_of names name) (length names) (place-below names name e)
    by false e = le-ltb (place_of names name) (length names) (omega (arith, place-missing names name e))

-- Rows have one key of numbers where they are the same by their texts, if the names have the later one's id.
module _ {R : Type 0} (names : List (List ℕ)) (id_of : R → List ℕ) (part_of : R → ℤ) where
  pub any_same : (same : R → R → Bool) (agree : (row other : R) → HasId names id_of other → is_same_key names id_of part_of row other ≡ same row other)
      → (row : R) (before : List R) → All (HasId names id_of) before → list_any (is_same_key names id_of part_of row) before ≡ list_any (same row) before
  any_same same agree row [] known = refl
  any_same same agree row (other ∷ before) known =
      ors _ _ _ _ (agree row other (All-head (HasId names id_of) other before known)) (any_same same agree row before (All-tail (HasId names id_of) other before known))
    where
      ors : (a b c d : Bool) → a ≡ c → b ≡ d → (a || b) ≡ (c || d)
      ors a b c d e f = rw (e, f) refl

  -- noting a key that wasn't there
  pub key_more : (rows : List R) (i : ℕ) (row : R) (keys now : List Key) → i < length rows → row ≡ get_or rows i row → keys ≡ map (key_in names id_of part_of) (take i rows)
      → list_any (is_key (key_in names id_of part_of row)) keys ≡ false → now ≡ with_key keys (key_in names id_of part_of row) → now ≡ map (key_in names id_of part_of) (take (i + 1) rows)
  key_more rows i row keys now l e h new n =
      let key : R → Key = key_in names id_of part_of in
      let last : now ≡ keys ++ key row ∷ [] = rw new at n in
      let more : map key (take (i + 1) rows) ≡ map key (take i rows) ++ key row ∷ [] = rw (← e) at (map_more key rows i row l) in
      last ∙ rw h (sym more)

signed_eq : (a b : ℕ) → int_eq (pos a) (pos b) ≡ nat_eq a b
signed_eq a b = by (nat_eq a b) refl
  where
    by : (c : Bool) → nat_eq a b ≡ c → int_eq (pos a) (pos b) ≡ c
    by true e = (Decides-int_eq (pos a) (pos b)).1 (ap pos (eqb-true a b e))
    by false e = false_from_ne_true (int_eq (pos a) (pos b)) (λ t. eqb-false a b e (apart ((Decides-int_eq (pos a) (pos b)).0 t)))
      where
        apart : pos a ≡ pos b → a ≡ b
        apart h = cc h

pub times_agree : (trips : List (List ℕ)) (row other : StopTimeRow) → HasId trips trip_of_time other → is_same_key trips trip_of_time sequence_of row other ≡ is_same_call row other
times_agree trips row other h = rw (same_place trips row.trip_id other.trip_id h, signed_eq row.stop_sequence other.stop_sequence) refl

pub dates_agree : (services : List (List ℕ)) (row other : DateRow) → HasId services service_of_date other → is_same_key services service_of_date date_of row other ≡ is_same_date row other
dates_agree services row other h = rw (same_place services row.service_id other.service_id h) refl

pub starts_agree : (trips : List (List ℕ)) (row other : FrequencyRow) → HasId trips trip_of_frequency other → is_same_key trips trip_of_frequency start_of row other ≡ is_same_start row other
starts_agree trips row other h = rw (same_place trips row.trip_id other.trip_id h, signed_eq row.start_time other.start_time) refl

-- the number of what a row names
pub number_is : {R : Type 0} (names : List (List ℕ)) (id_of : R → List ℕ) (numbers : List ℕ) (rows : List R) (i : ℕ) (row : R) → numbers ≡ numbers_in names id_of rows → i < length rows → row ≡ get_or rows i row
    → get_or numbers i 0 ≡ place_of names (id_of row)
number_is names id_of numbers rows i row h l e =
    let at : get_or (numbers_in names id_of rows) i 0 ≡ place_of names (id_of (get_or rows i row)) = get_or-map (λ r. place_of names (id_of r)) rows i row 0 l in
    ap (λ (ns : List ℕ). get_or ns i 0) h ∙ (at ∙ ap (λ r. place_of names (id_of r)) (sym e))
