-- Names as the keys of a set.
use Rattle.std.proofs.Common.{◌≡◌, ℕ, ◌+◌, ◌≤◌, List, [], ◌∷◌, ◌++◌, length, Bool, true, false, cond, not, position, None, Some, Bor, refl, sym, ap, inl, inr, arith}
use Rattle.std.specs.Prelude.{nat_lt}
use Rattle.std.specs.List.{list_any, position_or_len}
use Rattle.std.specs.Str.{bytes_eq}
use Rattle.std.proofs.lemmas.Bool.{cases_lt, lt-ltb}
use Rattle.name_index.proofs.TestFacts.{list_any-map}
use Rattle.name_index.specs.Keys.{texts_of}
use Rattle.otp_model.specs.Sights.{has_name, noted, place_of}

pub has-texts_of : (keys : List (Bor (List ℕ))) (name : List ℕ) → list_any (λ (key : Bor (List ℕ)). bytes_eq name key.now) keys ≡ has_name (texts_of keys) name
has-texts_of keys name = sym (list_any-map (bytes_eq name) (λ (key : Bor (List ℕ)). key.now) keys)

map-append : (keys more : List (Bor (List ℕ))) → texts_of (keys ++ more) ≡ texts_of keys ++ texts_of more
map-append [] more = refl
map-append (key ∷ keys) more = ap (λ (names : List (List ℕ)). key.now ∷ names) (map-append keys more)

-- an inserted key is a name noted
pub noted-texts_of : (keys : List (Bor (List ℕ))) (key : Bor (List ℕ))
    → texts_of (cond (list_any (λ (other : Bor (List ℕ)). bytes_eq key.now other.now) keys) keys (keys ++ key ∷ [])) ≡ noted (texts_of keys) key.now
noted-texts_of keys key = by (list_any (λ (other : Bor (List ℕ)). bytes_eq key.now other.now) keys) (has-texts_of keys key.now)
  where
    by : (b : Bool) → b ≡ has_name (texts_of keys) key.now → texts_of (cond b keys (keys ++ key ∷ [])) ≡ noted (texts_of keys) key.now
    by true e = rw (← e) refl
    by false e = rw (← e) (map-append keys (key ∷ []))

pub place-texts_of : (keys : List (Bor (List ℕ))) (name : List ℕ) → position_or_len (λ (key : Bor (List ℕ)). bytes_eq name key.now) keys ≡ place_of (texts_of keys) name
unfolding place_of
place-texts_of [] name = refl
place-texts_of (key ∷ keys) name = by (bytes_eq name key.now) (place-texts_of keys name)
  where
    by : (b : Bool) → position_or_len (λ (key : Bor (List ℕ)). bytes_eq name key.now) keys ≡ place_of (texts_of keys) name
        → cond (not b) (1 + position_or_len (λ (key : Bor (List ℕ)). bytes_eq name key.now) keys) 0 ≡ cond b 0 (place_of (texts_of keys) name + 1)
    by true more = refl
    by false more = omega (arith, more)

pub place-within : (names : List (List ℕ)) (name : List ℕ) → place_of names name ≤ length names
unfolding place_of
place-within [] name = omega arith
place-within (other ∷ names) name = by (bytes_eq name other) (place-within names name)
  where
    by : (b : Bool) → place_of names name ≤ length names → cond b 0 (place_of names name + 1) ≤ length (other ∷ names)
    by true more = omega arith
    by false more = omega (arith, more)

pub length-texts_of : (keys : List (Bor (List ℕ))) → length (texts_of keys) ≡ length keys
length-texts_of [] = refl
length-texts_of (key ∷ keys) = omega (arith, length-texts_of keys)

module _ {X : Type 0} (p : X → Bool) (xs : List X) where
  -- what `position` found is the place, and where it found none the place is the length
  pub position-found : (i : ℕ) → position p xs ≡ Some i → i ≡ position_or_len p xs
  position-found i h = by (nat_lt (position_or_len p xs) (length xs)) h
    where
      by : (b : Bool) → cond b (Some (position_or_len p xs)) None ≡ Some i → i ≡ position_or_len p xs
      by true e = cc e
      by false e = cc e

  pub position-missing : position p xs ≡ None → length xs ≤ position_or_len p xs
  position-missing h = elim (cases_lt (position_or_len p xs) (length xs)) [ inl less ↦ absurd (by (rw (lt-ltb (position_or_len p xs) (length xs) less) at h)) | inr more ↦ more ]
    where
      by : Some (position_or_len p xs) ≡ None → ⊥
      by e = cc e
