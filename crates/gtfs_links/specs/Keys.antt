-- Keys of rows: the number of the record that a row names, and a sequence, day or time of it.
use Rattle.std.specs.Prelude.{◌≡◌, ℕ, ◌<◌, ℤ, List, [], ◌∷◌, ◌++◌, map, take, Bool, true, false, Some, ◌&&◌, nat_eq, if◌then◌else◌, slice_get}
use Rattle.std.specs.List.{list_any}
use Rattle.std.specs.Ordering.{int_eq}
use Rattle.otp_model.specs.Sights.{place_of}
use Rattle.gtfs_links.specs.declared.check.keys.Key.{Key}

abbrev pub is_key : Key → Key → Bool
is_key key other = nat_eq key.owner other.owner && int_eq key.part other.part

-- the keys with one more, if they don't have it
abbrev pub with_key : List Key → Key → List Key
with_key keys key = if list_any (is_key key) keys then keys else keys ++ key ∷ []

-- the numbers, among the names, of the ids that the rows have
abbrev pub numbers_in : {R : Type 0} → List (List ℕ) → (R → List ℕ) → List R → List ℕ
numbers_in {R} names id_of rows = map (λ (row : R). place_of names (id_of row)) rows

abbrev pub key_in : {R : Type 0} → List (List ℕ) → (R → List ℕ) → (R → ℤ) → R → Key
key_in names id_of part_of row = record { owner = place_of names (id_of row); part = part_of row }

-- two rows have one key
abbrev pub is_same_key : {R : Type 0} → List (List ℕ) → (R → List ℕ) → (R → ℤ) → R → R → Bool
is_same_key names id_of part_of row other = is_key (key_in names id_of part_of row) (key_in names id_of part_of other)

-- none of the rows before this place is the same as an earlier one
abbrev pub AreApartBefore : {R : Type 0} → (R → R → Bool) → List R → ℕ → Type 0
AreApartBefore {R} same rows place = (k : ℕ) (row : R) → k < place → slice_get rows k ≡ Some row → list_any (same row) (take k rows) ≡ false

-- the place of the first row that is the same as an earlier one, beyond all rows where there is none
pub record IsFirstRepeat {R : Type 0} (same : R → R → Bool) (rows : List R) (place : ℕ) : Type 0 where
  pub apart : AreApartBefore same rows place
  pub repeated : (row : R) → slice_get rows place ≡ Some row → list_any (same row) (take place rows) ≡ true
