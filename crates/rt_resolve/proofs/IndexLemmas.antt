-- Places by an id, where no two have the same id.
use Rattle.std.proofs.Common.{◌≡◌, ◌≢◌, ℕ, ◌+◌, ◌<◌, ◌≤◌, suc, zero, List, [], ◌∷◌, length, get_or, map, Bool, true, false, cond, None, Some, refl, sym, ap, add-one, ◌∙◌, arith}
use Rattle.std.specs.Prelude.{◌&&◌}
use Rattle.std.specs.List.{All, AllPairs, position_from}
use Rattle.std.specs.Str.{bytes_eq}
use Rattle.std.proofs.lemmas.Bool.{false_from_ne_true}
use Rattle.std.proofs.lemmas.List.Elements.{All-head, All-tail}
use Rattle.name_index.proofs.SightFacts.{first_sights-without}
use Rattle.name_index.proofs.TestFacts.{bytes_eq-other_way, bytes_eq-refl, same_bytes}
use Rattle.otp_model.specs.Sights.{first_sights, has_name, place_of}

module _ {R : Type 0} (id_of : R → List ℕ) where
  abbrev pub AreApart : List R → Type 0
  AreApart rows = AllPairs (λ (a b : R). id_of a ≢ id_of b) rows

  apart_tail : (row : R) (rows : List R) → AreApart (row ∷ rows) → AreApart rows
  apart_tail row rows apart i j d l m = apart (suc i) (suc j) d (omega arith) (omega arith)

  apart_head : (row : R) (rows : List R) → AreApart (row ∷ rows) → All (λ (other : R). id_of row ≢ id_of other) rows
  apart_head row rows apart k d l = apart zero (suc k) d (omega arith) (omega arith)

  unlike : (id : List ℕ) (row : R) → id ≢ id_of row → bytes_eq id (id_of row) ≡ false
  unlike id row differs = false_from_ne_true (bytes_eq id (id_of row)) (λ t. differs (same_bytes id (id_of row) t))

  none_has : (rows : List R) (id : List ℕ) → All (λ (row : R). id ≢ id_of row) rows → has_name (map id_of rows) id ≡ false
  none_has [] id h = refl
  none_has (row ∷ rows) id h =
      rw (unlike id row (All-head (λ (r : R). id ≢ id_of r) row rows h)) (none_has rows id (All-tail (λ (r : R). id ≢ id_of r) row rows h))

  -- each of them is sighted once
  pub sighted_once : (rows : List R) → AreApart rows → first_sights (map id_of rows) ≡ map id_of rows
  unfolding first_sights
  sighted_once [] apart = refl
  sighted_once (row ∷ rows) apart =
      ap (λ (ids : List (List ℕ)). id_of row ∷ ids)
      (first_sights-without (id_of row) (map id_of rows) (none_has rows (id_of row) (apart_head row rows apart)) ∙ sighted_once rows (apart_tail row rows apart))

  -- the row of an id by the place of the id
  pub place_found : (rows : List R) (id : List ℕ) (n : ℕ) → place_of (map id_of rows) id < length rows
      → position_from (λ (row : R). bytes_eq (id_of row) id) n rows ≡ Some (n + place_of (map id_of rows) id)
  unfolding place_of
  place_found [] id n less = absurd (omega arith)
  place_found (row ∷ rows) id n less = by (bytes_eq id (id_of row)) refl less (place_found rows id (n + 1))
    where
      by : (b : Bool) → bytes_eq id (id_of row) ≡ b → cond b 0 (place_of (map id_of rows) id + 1) < suc (length rows)
          → (place_of (map id_of rows) id < length rows → position_from (λ (row : R). bytes_eq (id_of row) id) (n + 1) rows ≡ Some (n + 1 + place_of (map id_of rows) id))
          → cond (bytes_eq (id_of row) id) (Some n) (position_from (λ (row : R). bytes_eq (id_of row) id) (n + 1) rows) ≡ Some (n + cond b 0 (place_of (map id_of rows) id + 1))
      by true e l more = let same : bytes_eq (id_of row) id ≡ true = rw (same_bytes id (id_of row) e) (bytes_eq-refl (id_of row)) in rw same (ap (λ (k : ℕ). Some k) (omega arith))
      by false e l more = rw (bytes_eq-other_way id (id_of row) e) (more (omega arith) ∙ ap (λ (k : ℕ). Some k) (omega arith))

  pub place_missing : (rows : List R) (id : List ℕ) (n : ℕ) → length rows ≤ place_of (map id_of rows) id
      → position_from (λ (row : R). bytes_eq (id_of row) id) n rows ≡ None
  unfolding place_of
  place_missing [] id n over = refl
  place_missing (row ∷ rows) id n over = by (bytes_eq id (id_of row)) refl over (place_missing rows id (n + 1))
    where
      by : (b : Bool) → bytes_eq id (id_of row) ≡ b → suc (length rows) ≤ cond b 0 (place_of (map id_of rows) id + 1)
          → (length rows ≤ place_of (map id_of rows) id → position_from (λ (row : R). bytes_eq (id_of row) id) (n + 1) rows ≡ None)
          → cond (bytes_eq (id_of row) id) (Some n) (position_from (λ (row : R). bytes_eq (id_of row) id) (n + 1) rows) ≡ None
      by true e l more = absurd (omega arith)
      by false e l more = rw (bytes_eq-other_way id (id_of row) e) (more (omega arith))

  module _ (test : R → Bool) where
    -- whether a row has the id, and passes the test
    abbrev pub passes : List ℕ → R → Bool
    passes id row = bytes_eq (id_of row) id && test row

    none_passes : (rows : List R) (id : List ℕ) (n : ℕ) → All (λ (row : R). id ≢ id_of row) rows → position_from (passes id) n rows ≡ None
    none_passes [] id n h = refl
    none_passes (row ∷ rows) id n h =
        rw (bytes_eq-other_way id (id_of row) (unlike id row (All-head (λ (r : R). id ≢ id_of r) row rows h)))
        (none_passes rows id (n + 1) (All-tail (λ (r : R). id ≢ id_of r) row rows h))

    pub pass_missing : (rows : List R) (id : List ℕ) (n : ℕ) → length rows ≤ place_of (map id_of rows) id → position_from (passes id) n rows ≡ None
    unfolding place_of
    pass_missing [] id n over = refl
    pass_missing (row ∷ rows) id n over = by (bytes_eq id (id_of row)) refl over (pass_missing rows id (n + 1))
      where
        by : (b : Bool) → bytes_eq id (id_of row) ≡ b → suc (length rows) ≤ cond b 0 (place_of (map id_of rows) id + 1)
            → (length rows ≤ place_of (map id_of rows) id → position_from (passes id) (n + 1) rows ≡ None)
            → cond (bytes_eq (id_of row) id && test row) (Some n) (position_from (passes id) (n + 1) rows) ≡ None
        by true e l more = absurd (omega arith)
        by false e l more = rw (bytes_eq-other_way id (id_of row) e) (more (omega arith))

    -- of rows that are apart the one of the id passes, or none does
    pub pass_found : (rows : List R) (id : List ℕ) (n : ℕ) (found : R) → AreApart rows → place_of (map id_of rows) id < length rows
        → found ≡ get_or rows (place_of (map id_of rows) id) found
        → position_from (passes id) n rows ≡ cond (test found) (Some (n + place_of (map id_of rows) id)) None
    unfolding place_of
    pass_found [] id n found apart less is = absurd (omega arith)
    pass_found (row ∷ rows) id n found apart less is = by (bytes_eq id (id_of row)) refl less is (pass_found rows id (n + 1) found (apart_tail row rows apart))
      where
        behind : bytes_eq id (id_of row) ≡ true → position_from (passes id) (n + 1) rows ≡ None
        behind e = none_passes rows id (n + 1) (λ k d l same. apart_head row rows apart k d l (sym (same_bytes id (id_of row) e) ∙ same))

        here : (t : Bool) → test row ≡ t → bytes_eq id (id_of row) ≡ true → cond (test row) (Some n) (position_from (passes id) (n + 1) rows) ≡ cond (test row) (Some n) None
        here true e same = rw e refl
        here false e same = rw e (behind same)

        by : (b : Bool) → bytes_eq id (id_of row) ≡ b → cond b 0 (place_of (map id_of rows) id + 1) < suc (length rows)
            → found ≡ get_or (row ∷ rows) (cond b 0 (place_of (map id_of rows) id + 1)) found
            → (place_of (map id_of rows) id < length rows → found ≡ get_or rows (place_of (map id_of rows) id) found
            → position_from (passes id) (n + 1) rows ≡ cond (test found) (Some (n + 1 + place_of (map id_of rows) id)) None)
            → cond (bytes_eq (id_of row) id && test row) (Some n) (position_from (passes id) (n + 1) rows)
            ≡ cond (test found) (Some (n + cond b 0 (place_of (map id_of rows) id + 1))) None
        by true e l at more =
            let same : bytes_eq (id_of row) id ≡ true = rw (same_bytes id (id_of row) e) (bytes_eq-refl (id_of row)) in
            let own : cond (bytes_eq (id_of row) id && test row) (Some n) (position_from (passes id) (n + 1) rows) ≡ cond (test row) (Some n) None = rw same (here (test row) refl e) in
            own ∙ ap (λ (r : R). cond (test r) (Some n) None) (sym at) ∙ ap (λ (k : ℕ). cond (test found) (Some k) None) (omega arith)
        by false e l at more =
            let differs : bytes_eq (id_of row) id ≡ false = bytes_eq-other_way id (id_of row) e in
            let tail : found ≡ get_or rows (place_of (map id_of rows) id) found = rw add-one at at in
            rw differs (more (omega arith) tail ∙ ap (λ (k : ℕ). cond (test found) (Some k) None) (omega arith))
