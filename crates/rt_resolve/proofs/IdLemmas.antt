-- Ids as the keys of a set.
use Rattle.std.proofs.Common.{◌≡◌, ℕ, ◌+◌, List, [], ◌∷◌, ◌++◌, Bool, true, false, cond, map, not, refl, sym, ap, ◌∙◌, arith}
use Rattle.std.specs.List.{list_any, position_or_len}
use Rattle.std.specs.Str.{bytes_eq}
use Rattle.std.proofs.lemmas.List.{map-append}
use Rattle.name_index.proofs.TestFacts.{list_any-map}
use Rattle.otp_model.specs.Sights.{has_name, noted, place_of}

module _ {K : Type 0} (text : K → List ℕ) where
  -- an inserted key is an id noted
  pub noted_key : (keys : List K) (key : K) → map text (cond (list_any (λ (other : K). bytes_eq (text key) (text other)) keys) keys (keys ++ key ∷ [])) ≡ noted (map text keys) (text key)
  noted_key keys key = by (list_any (λ (other : K). bytes_eq (text key) (text other)) keys) (sym (list_any-map (bytes_eq (text key)) text keys))
    where
      by : (b : Bool) → b ≡ has_name (map text keys) (text key) → map text (cond b keys (keys ++ key ∷ [])) ≡ noted (map text keys) (text key)
      by true e = rw (← e) refl
      by false e = rw (← e) (map-append text keys (key ∷ []))

  pub place_key : (keys : List K) (id : List ℕ) → position_or_len (λ (key : K). bytes_eq id (text key)) keys ≡ place_of (map text keys) id
  unfolding place_of
  place_key [] id = refl
  place_key (key ∷ keys) id = by (bytes_eq id (text key)) (place_key keys id)
    where
      by : (b : Bool) → position_or_len (λ (key : K). bytes_eq id (text key)) keys ≡ place_of (map text keys) id
          → cond (not b) (1 + position_or_len (λ (key : K). bytes_eq id (text key)) keys) 0 ≡ cond b 0 (place_of (map text keys) id + 1)
      by true more = refl
      by false more = omega (arith, more)
