-- The places of a stop, each once.
use Rattle.std.proofs.Common.{◌≡◌, ◌≢◌, ℕ, zero, suc, ◌+◌, ◌<◌, ◌≤◌, Bool, false, cond, ◌==◌, List, [], ◌∷◌, ◌++◌, length, get_or, Some, ◌⊎◌, refl, sym, ap, subst, ◌∙◌, arith, inl, inr, add-one}
use Rattle.std.specs.List.{All, AllPairs, Contains, slice_get}
use Rattle.std.proofs.lemmas.Bool.{cases_eq, ne_eqb, eq-eqb}
use Rattle.std.proofs.lemmas.List.{append-nil, append_assoc}
use Rattle.std.proofs.lemmas.List.Elements.{All-nil, All-push, All-weaker, Contains-append_left, Contains-push}
use Rattle.std.proofs.lemmas.List.Quantifiers.{all_pairs_push}
use Rattle.std.proofs.lemmas.Option.{get_or_from_slice_get, same_Some, slice_get-get_or, slice_get_within}
use Rattle.otp_model.specs.Patterns.{Spot}
use Rattle.trip_patterns.specs.declared.timetable.BlockStop.{BlockStop}
use Rattle.trip_patterns.specs.Lanes.{LaneOf}
use Rattle.trip_patterns.specs.Timetables.{ArePlacesOf, IsBlock, IsPlaceOf}
use Rattle.snapshot_store.specs.Places.{block_pattern, places_before, places_in, places_of, places_of_block}
use Rattle.snapshot_store.proofs.PlaceLemmas.{here, place_at, places_before_more, places_in_more}

-- the place stands before a position of a block
record IsBefore (block position : ℕ) (place : BlockStop) : Type 0 where
  either : (place.block < block) ⊎ ((place.block ≡ block) × (place.position < position))

-- the places of the stop before a position of a block, each once
record ArePlacesSoFar (blocks : List (List LaneOf)) (stop block position : ℕ) (places : List BlockStop) : Type 0 where
  only : All (IsPlaceOf blocks stop) places
  before : All (IsBefore block position) places
  whole : (place : BlockStop) → IsPlaceOf blocks stop place → IsBefore block position place → Contains places place
  once : AllPairs (λ (a b : BlockStop). a ≢ b) places

-- each lane of a block has the block's pattern
pub same_pattern : (lanes : List LaneOf) (lane : LaneOf) → IsBlock lanes → Contains lanes lane → lane.pattern ≡ block_pattern lanes
same_pattern [] lane is at = absurd (let less = at.1 in omega arith)
same_pattern (first ∷ lanes) lane is (zero, less, same) = ap (λ (l : LaneOf). l.pattern) (sym same)
same_pattern (first ∷ lanes) lane is (suc k, less, same) =
    ap (λ (l : LaneOf). l.pattern) (sym same) ∙ sym (is.same 0 (suc k) lane (omega arith) less).pattern

-- a place, by the pattern of its block
spot_of_place : (blocks : List (List LaneOf)) (stop : ℕ) (place : BlockStop) → All IsBlock blocks → IsPlaceOf blocks stop place
    → (spot : Spot) × (place.block < length blocks) × (slice_get (block_pattern (get_or blocks place.block [])) place.position ≡ Some spot) × (spot.stop ≡ stop)
spot_of_place blocks stop place are is =
    let less = slice_get_within blocks place.block is.lanes is.lanes_are in
    let lanes : get_or blocks place.block [] ≡ is.lanes = get_or_from_slice_get blocks place.block is.lanes [] is.lanes_are in
    let block : IsBlock is.lanes = subst IsBlock lanes (are place.block [] less) in
    let pattern : is.lane.pattern ≡ block_pattern (get_or blocks place.block []) = same_pattern is.lanes is.lane block is.lane_is ∙ ap block_pattern (sym lanes) in
    (is.spot, less, subst (λ (p : List Spot). slice_get p place.position ≡ Some is.spot) pattern is.spot_is, is.stop_is)

place_of_spot : (blocks : List (List LaneOf)) (stop n p : ℕ) (spot : Spot) → n < length blocks
    → slice_get (block_pattern (get_or blocks n [])) p ≡ Some spot → spot.stop ≡ stop → IsPlaceOf blocks stop (place_at n p)
place_of_spot blocks stop n p spot less at same =
    let lanes-at = slice_get-get_or blocks n [] less in
    by_lanes (get_or blocks n []) lanes-at at
  where
    by_lanes : (lanes : List LaneOf) → slice_get blocks n ≡ Some lanes → slice_get (block_pattern lanes) p ≡ Some spot → IsPlaceOf blocks stop (place_at n p)
    by_lanes [] lanes-at at = absurd (let within = slice_get_within [] p spot at in omega arith)
    by_lanes (lane ∷ lanes) lanes-at at = record {
      lanes = lane ∷ lanes;
      lanes_are = lanes-at;
      lane = lane;
      lane_is = (0, omega arith, refl);
      spot = spot;
      spot_is = at;
      stop_is = same;
    }

none_before : (place : BlockStop) → IsBefore 0 0 place → ⊥
none_before place is = elim is.either [ inl less ↦ omega arith | inr here ↦ (let less = here.1 in omega arith) ]

none : (blocks : List (List LaneOf)) (stop : ℕ) → ArePlacesSoFar blocks stop 0 0 []
none blocks stop = record {
  only = All-nil (IsPlaceOf blocks stop);
  before = All-nil (IsBefore 0 0);
  whole = λ place is before. absurd (none_before place before);
  once = λ i j d less within. absurd (omega arith);
}

later : (n p : ℕ) (place : BlockStop) → IsBefore n p place → IsBefore n (p + 1) place
later n p place is = record { either = elim is.either [ inl less ↦ inl less | inr here ↦ inr (here.0, (let less = here.1 in omega arith)) ] }

-- what stands before the next position stands before this one, or here
or_here : (n p : ℕ) (place : BlockStop) → IsBefore n (p + 1) place → IsBefore n p place ⊎ (place_at n p ≡ place)
or_here n p place is = elim is.either [
  | inl less ↦ inl (record { either = inl less })
  | inr at ↦ elim (cases_eq place.position p) [
    | inl same ↦ inr (let b = sym at.0 in let q = sym same in λ i. record { block = b i; position = q i })
    | inr other ↦ inl (record { either = inr (at.0, (let less = at.1 in omega arith)) })
  ]
]

not_before_itself : (n p : ℕ) (place : BlockStop) → IsBefore n p place → place ≡ place_at n p → ⊥
not_before_itself n p place is same =
    let block : place.block ≡ n = ap (λ (x : BlockStop). x.block) same in
    let position : place.position ≡ p = ap (λ (x : BlockStop). x.position) same in
    elim is.either [ inl less ↦ omega arith | inr here ↦ (let less = here.1 in omega arith) ]

-- a place more, where the stop stands there
with_place : (blocks : List (List LaneOf)) (stop n p : ℕ) (places : List BlockStop) → IsPlaceOf blocks stop (place_at n p)
    → ArePlacesSoFar blocks stop n p places → ArePlacesSoFar blocks stop n (p + 1) (places ++ place_at n p ∷ [])
with_place blocks stop n p places is are = record {
  only = All-push (IsPlaceOf blocks stop) places (place_at n p) are.only is;
  before = All-push (IsBefore n (p + 1)) places (place_at n p) (All-weaker (IsBefore n p) (IsBefore n (p + 1)) (later n p) places are.before) (record { either = inr (refl, omega arith) });
  whole = λ place place-is before. elim (or_here n p place before) [
    | inl earlier ↦ Contains-append_left places (place_at n p ∷ []) place (are.whole place place-is earlier)
    | inr same ↦ subst (Contains (places ++ place_at n p ∷ [])) same (Contains-push places (place_at n p))
  ];
  once = all_pairs_push (λ (a b : BlockStop). a ≢ b) places (place_at n p) are.once (λ k d less same. not_before_itself n p (get_or places k d) (are.before k d less) same);
}

-- the same, where another stop stands there
without_place : (blocks : List (List LaneOf)) (stop n p : ℕ) (places : List BlockStop) → (IsPlaceOf blocks stop (place_at n p) → ⊥)
    → ArePlacesSoFar blocks stop n p places → ArePlacesSoFar blocks stop n (p + 1) places
without_place blocks stop n p places never are = record {
  only = are.only;
  before = All-weaker (IsBefore n p) (IsBefore n (p + 1)) (later n p) places are.before;
  whole = λ place place-is before. elim (or_here n p place before) [
    | inl earlier ↦ are.whole place place-is earlier
    | inr same ↦ absurd (never (subst (IsPlaceOf blocks stop) (sym same) place-is))
  ];
  once = are.once;
}

in_block : (blocks : List (List LaneOf)) (stop n : ℕ) (start : List BlockStop) → All IsBlock blocks → n < length blocks → ArePlacesSoFar blocks stop n 0 start
    → (p : ℕ) → p ≤ length (block_pattern (get_or blocks n [])) → ArePlacesSoFar blocks stop n p (start ++ places_in stop n (block_pattern (get_or blocks n [])) p)
in_block blocks stop n start are less so zero within = subst (ArePlacesSoFar blocks stop n 0) (sym (append-nil start)) so
in_block blocks stop n start are less so (suc p) within =
    let pattern : List Spot = block_pattern (get_or blocks n []) in
    let spot : Spot = get_or pattern p (record { stop = 0; board = false; alight = false }) in
    let at : slice_get pattern p ≡ Some spot = slice_get-get_or pattern p (record { stop = 0; board = false; alight = false }) (omega arith) in
    let before = in_block blocks stop n start are less so p (omega arith) in
    let more : start ++ places_in stop n pattern (p + 1) ≡ (start ++ places_in stop n pattern p) ++ cond (spot.stop == stop) (place_at n p ∷ []) []
    = ap (λ (xs : List BlockStop). start ++ xs) (places_in_more stop n pattern p)
    ∙ ap (λ (b : Bool). start ++ (places_in stop n pattern p ++ cond b (place_at n p ∷ []) [])) (here stop pattern p spot at)
    ∙ sym (append_assoc start (places_in stop n pattern p) (cond (spot.stop == stop) (place_at n p ∷ []) [])) in
    let places : ℕ → List BlockStop = λ q. start ++ places_in stop n (block_pattern (get_or blocks n [])) q in
    subst (λ (q : ℕ). ArePlacesSoFar blocks stop n q (places q)) (add-one p) (subst (ArePlacesSoFar blocks stop n (p + 1)) (sym more) (step pattern spot at before))
  where
    step : (pattern : List Spot) (spot : Spot) → slice_get (block_pattern (get_or blocks n [])) p ≡ Some spot
        → ArePlacesSoFar blocks stop n p (start ++ places_in stop n (block_pattern (get_or blocks n [])) p)
        → ArePlacesSoFar blocks stop n (p + 1) ((start ++ places_in stop n (block_pattern (get_or blocks n [])) p) ++ cond (spot.stop == stop) (place_at n p ∷ []) [])
    step pattern spot at before =
        let places : List BlockStop = start ++ places_in stop n (block_pattern (get_or blocks n [])) p in
        elim (cases_eq spot.stop stop) [
          | inl same ↦
              subst (λ (b : Bool). ArePlacesSoFar blocks stop n (p + 1) (places ++ cond b (place_at n p ∷ []) [])) (sym (eq-eqb spot.stop stop same))
              (with_place blocks stop n p places (place_of_spot blocks stop n p spot less at same) before)
          | inr other ↦
              subst (λ (b : Bool). ArePlacesSoFar blocks stop n (p + 1) (places ++ cond b (place_at n p ∷ []) [])) (sym (ne_eqb spot.stop stop other))
              (subst (ArePlacesSoFar blocks stop n (p + 1)) (sym (append-nil places))
              (without_place blocks stop n p places
              (λ is. let found = spot_of_place blocks stop (place_at n p) are is in
              other (ap (λ (s : Spot). s.stop) (same_Some spot found.0 (sym at ∙ found.2)) ∙ found.3)) before))
        ]

-- all places of a block stand before the next block
next_block : (blocks : List (List LaneOf)) (stop n : ℕ) (places : List BlockStop) → All IsBlock blocks
    → ArePlacesSoFar blocks stop n (length (block_pattern (get_or blocks n []))) places → ArePlacesSoFar blocks stop (n + 1) 0 places
next_block blocks stop n places are so = record {
  only = so.only;
  before = All-weaker (IsBefore n (length (block_pattern (get_or blocks n [])))) (IsBefore (n + 1) 0)
      (λ place before. record { either = inl (elim before.either [ inl less ↦ omega arith | inr here ↦ (let same = here.0 in omega arith) ]) }) places so.before;
  whole = λ place is before. so.whole place is (earlier place is before);
  once = so.once;
}
  where
    earlier : (place : BlockStop) → IsPlaceOf blocks stop place → IsBefore (n + 1) 0 place → IsBefore n (length (block_pattern (get_or blocks n []))) place
    earlier place is before = elim before.either [
      | inr here ↦ absurd (let less = here.1 in omega arith)
      | inl less ↦ elim (cases_eq place.block n) [
        | inl same ↦
            let found = spot_of_place blocks stop place are is in
            let at = subst (λ (m : ℕ). slice_get (block_pattern (get_or blocks m [])) place.position ≡ Some found.0) same found.2 in
            record { either = inr (same, slice_get_within (block_pattern (get_or blocks n [])) place.position found.0 at) }
        | inr other ↦ record { either = inl (omega arith) }
      ]
    ]

all_blocks : (blocks : List (List LaneOf)) (stop : ℕ) → All IsBlock blocks → (n : ℕ) → n ≤ length blocks → ArePlacesSoFar blocks stop n 0 (places_before blocks stop n)
all_blocks blocks stop are zero within = none blocks stop
all_blocks blocks stop are (suc n) within =
    let pattern : List Spot = block_pattern (get_or blocks n []) in
    subst (λ (m : ℕ). ArePlacesSoFar blocks stop m 0 (places_before blocks stop m)) (add-one n)
    (subst (ArePlacesSoFar blocks stop (n + 1) 0) (sym (places_before_more blocks stop n))
    (next_block blocks stop n (places_before blocks stop n ++ places_of_block blocks stop n) are
    (in_block blocks stop n (places_before blocks stop n) are (omega arith) (all_blocks blocks stop are n (omega arith)) (length pattern) (omega arith))))

pub are_places : (blocks : List (List LaneOf)) (stop : ℕ) → All IsBlock blocks → ArePlacesOf blocks stop (places_of blocks stop)
are_places blocks stop are =
    let so = all_blocks blocks stop are (length blocks) (omega arith) in
    record {
      only = so.only;
      whole = λ place is. so.whole place is (record { either = inl (slice_get_within blocks place.block is.lanes is.lanes_are) });
      once = so.once;
    }
