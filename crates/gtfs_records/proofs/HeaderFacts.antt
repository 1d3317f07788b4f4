-- Looking a name up in a header, field by field.
use Rattle.std.proofs.Common.{◌≡◌, ℕ, zero, suc, ◌+◌, ◌≤◌, ◌<◌, Bor, get_or, map, List, [], ◌∷◌, length, drop, Some, None, cond, refl, ap, arith, add-one}
use Rattle.std.proofs.lemmas.List.{drop_all}
use Rattle.std.specs.Str.{bytes_eq}
use Rattle.csv.specs.Records.{field_at}
use Rattle.gtfs_records.specs.Fields.{trim_spaces}
use Rattle.gtfs_records.specs.Table.{place_from}

pub drop-field_at : (fields : List (List ℕ)) (i : ℕ) (f : List ℕ) → field_at fields i ≡ Some f → drop i fields ≡ f ∷ drop (i + 1) fields
unfolding field_at
drop-field_at [] i f e = cc e
drop-field_at (x ∷ xs) zero f e = let same : x ≡ f = cc e in ap (λ (y : List ℕ). y ∷ xs) same
drop-field_at (x ∷ xs) (suc i) f e = rw (add-one (suc i)) (rw (add-one i) at (drop-field_at xs i f e))

pub place_step : (fields : List (List ℕ)) (name f : List ℕ) (i : ℕ) → field_at fields i ≡ Some f
    → place_from i name (drop i fields) ≡ cond (bytes_eq (trim_spaces f) name) (Some i) (place_from (i + 1) name (drop (i + 1) fields))
place_step fields name f i e = rw (drop-field_at fields i f e) refl

pub place_end : (fields : List (List ℕ)) (name : List ℕ) (i : ℕ) → length fields ≤ i → place_from i name (drop i fields) ≡ None
place_end fields name i h = rw (drop_all i fields h) refl

drop-field_at_none : (fields : List (List ℕ)) (i : ℕ) → field_at fields i ≡ None → drop i fields ≡ []
unfolding field_at
drop-field_at_none [] zero e = refl
drop-field_at_none [] (suc i) e = refl
drop-field_at_none (x ∷ xs) zero e = cc e
drop-field_at_none (x ∷ xs) (suc i) e = drop-field_at_none xs i e

pub place_none : (fields : List (List ℕ)) (name : List ℕ) (i : ℕ) → field_at fields i ≡ None → place_from i name (drop i fields) ≡ None
place_none fields name i e = rw (drop-field_at_none fields i e) refl

pub drop-map_now : (xs : List (Bor (List ℕ))) (i : ℕ) (d : Bor (List ℕ)) → i < length xs
    → drop i (map (λ (s : Bor (List ℕ)). s.now) xs) ≡ (get_or xs i d).now ∷ drop (i + 1) (map (λ (s : Bor (List ℕ)). s.now) xs)
drop-map_now [] i d h = absurd (omega arith)
drop-map_now (x ∷ xs) zero d h = refl
drop-map_now (x ∷ xs) (suc i) d h = rw (add-one (suc i)) (rw (add-one i) at (drop-map_now xs i d (omega arith)))
