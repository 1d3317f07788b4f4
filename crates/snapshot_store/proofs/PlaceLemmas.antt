-- Places that are added one by one.
use Rattle.std.proofs.Common.{◌≡◌, ℕ, zero, suc, ◌+◌, ◌<◌, Bool, true, false, cond, ◌==◌, List, [], ◌∷◌, ◌++◌, length, map, get_or, set, Some, refl, sym, ap, subst, ◌∙◌, arith, inl, inr, get_or-set_same, get_or-set_other}
use Rattle.std.specs.List.{filter, flat_map, range_with_len, slice_get}
use Rattle.std.specs.Option.{option_map_or}
use Rattle.std.proofs.lemmas.Bool.{cases_eq, eq-eqb, ne_eqb}
use Rattle.std.proofs.lemmas.List.{append-nil, append_assoc, map-append, map-id}
use Rattle.std.proofs.lemmas.List.Concat.{flat_map-append}
use Rattle.std.proofs.lemmas.List.Elements.{filter-append}
use Rattle.std.proofs.lemmas.List.FromFn.{map-range_with_len_more}
use Rattle.otp_model.specs.Patterns.{Spot}
use Rattle.trip_patterns.specs.declared.timetable.BlockStop.{BlockStop}
use Rattle.trip_patterns.specs.Lanes.{LaneOf}
use Rattle.snapshot_store.specs.Places.{is_stop_at, places_before, places_in, places_of_block}

-- an empty list at the end changes no place
pub get_more : {X : Type 0} (xs : List (List X)) (k : ℕ) → get_or (xs ++ [] ∷ []) k [] ≡ get_or xs k []
get_more [] zero = refl
get_more [] (suc k) = refl
get_more (x ∷ xs) zero = refl
get_more (x ∷ xs) (suc k) = get_more xs k

-- one item more in one of several lists
pub put_at : {X : Type 0} (xs : List (List X)) (n k : ℕ) (x : X) → n < length xs
    → get_or (set xs n (get_or xs n [] ++ x ∷ [])) k [] ≡ get_or xs k [] ++ cond (n == k) (x ∷ []) []
put_at {X} xs n k x less = elim (cases_eq n k) [
  | inl same ↦
      subst (λ (m : ℕ). get_or (set xs n (get_or xs n [] ++ x ∷ [])) m [] ≡ get_or xs m [] ++ cond (n == m) (x ∷ []) []) same
      (get_or-set_same xs n (get_or xs n [] ++ x ∷ []) [] less ∙ ap (λ (b : Bool). get_or xs n [] ++ cond b (x ∷ []) []) (sym (eq-eqb n n refl)))
  | inr other ↦
      get_or-set_other xs n k (get_or xs n [] ++ x ∷ []) [] (λ h. other (sym h)) ∙ sym (append-nil (get_or xs k []))
      ∙ ap (λ (b : Bool). get_or xs k [] ++ cond b (x ∷ []) []) (sym (ne_eqb n k other))
]

pub range_more : (n : ℕ) → range_with_len 0 (n + 1) ≡ range_with_len 0 n ++ n ∷ []
range_more n = sym (map-id (range_with_len 0 (n + 1))) ∙ map-range_with_len_more (λ (k : ℕ). k) 0 n n (omega arith) ∙ ap (λ (xs : List ℕ). xs ++ n ∷ []) (map-id (range_with_len 0 n))

abbrev pub place_at : ℕ → ℕ → BlockStop
place_at block position = record { block = block; position = position }

map_cond : {X Y : Type 0} (f : X → Y) (b : Bool) (x : X) → map f (cond b (x ∷ []) []) ≡ cond b (f x ∷ []) []
map_cond f true x = refl
map_cond f false x = refl

pub places_in_more : (stop block : ℕ) (pattern : List Spot) (n : ℕ)
    → places_in stop block pattern (n + 1) ≡ places_in stop block pattern n ++ cond (is_stop_at stop pattern n) (place_at block n ∷ []) []
places_in_more stop block pattern n =
    let p = is_stop_at stop pattern in
    ap (λ (ns : List ℕ). map (place_at block) (filter p ns)) (range_more n)
    ∙ ap (map (place_at block)) (filter-append p (range_with_len 0 n) (n ∷ []))
    ∙ map-append (place_at block) (filter p (range_with_len 0 n)) (cond (p n) (n ∷ []) [])
    ∙ ap (λ (xs : List BlockStop). map (place_at block) (filter p (range_with_len 0 n)) ++ xs) (map_cond (place_at block) (p n) n)

pub places_before_more : (blocks : List (List LaneOf)) (stop n : ℕ) → places_before blocks stop (n + 1) ≡ places_before blocks stop n ++ places_of_block blocks stop n
places_before_more blocks stop n =
    ap (flat_map (places_of_block blocks stop)) (range_more n) ∙ flat_map-append (places_of_block blocks stop) (range_with_len 0 n) (n ∷ [])
    ∙ ap (λ (xs : List BlockStop). places_before blocks stop n ++ xs) (append-nil (places_of_block blocks stop n))

-- the place of the stop at this position, if it stands there
pub here : (stop : ℕ) (pattern : List Spot) (n : ℕ) (spot : Spot) → slice_get pattern n ≡ Some spot → is_stop_at stop pattern n ≡ (spot.stop == stop)
here stop pattern n spot at = ap (λ o. option_map_or (λ (spot : Spot). spot.stop == stop) o false) at

-- what a place that is put leaves of the places so far
pub put_more : (stop block : ℕ) (pattern : List Spot) (n put : ℕ) (spot : Spot) (start before after : List BlockStop) → slice_get pattern n ≡ Some spot → put ≡ spot.stop
    → before ≡ start ++ places_in stop block pattern n → after ≡ before ++ cond (put == stop) (place_at block n ∷ []) [] → after ≡ start ++ places_in stop block pattern (n + 1)
put_more stop block pattern n put spot start before after at same is more =
    more ∙ ap (λ (xs : List BlockStop). xs ++ cond (put == stop) (place_at block n ∷ []) []) is
    ∙ append_assoc start (places_in stop block pattern n) (cond (put == stop) (place_at block n ∷ []) [])
    ∙ ap (λ (b : Bool). start ++ (places_in stop block pattern n ++ cond b (place_at block n ∷ []) [])) (ap (λ (m : ℕ). m == stop) same ∙ sym (here stop pattern n spot at))
    ∙ ap (λ (xs : List BlockStop). start ++ xs) (sym (places_in_more stop block pattern n))
