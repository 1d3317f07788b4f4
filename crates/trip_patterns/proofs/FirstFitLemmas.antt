-- Lanes that runs are put into one by one.
use Rattle.std.proofs.Common.{◌≡◌, ℕ, suc, ◌+◌, ◌<◌, ◌≤◌, List, [], ◌∷◌, ◌++◌, length, take, drop, get_or, set, Some, refl, sym, ap, subst, ◌∙◌, arith, inl, inr, Result, Ok, Err, IfOk}
use Rattle.std.specs.List.{All, slice_get}
use Rattle.std.specs.List.Sorted.{IsPermutation}
use Rattle.std.proofs.lemmas.Bool.{cases_lt}
use Rattle.std.proofs.lemmas.List.{append_assoc, length_push, set-get_or, set_split, take_all, take_more}
use Rattle.std.proofs.lemmas.List.Concat.{flat_map-append}
use Rattle.std.proofs.lemmas.List.Elements.{All-nil, All-push, All-set}
use Rattle.std.proofs.lemmas.List.Sorted.{IsPermutation-middle, IsPermutation-push_more, IsPermutation-refl, IsPermutation-sym, IsPermutation-to_front}
use Rattle.std.proofs.lemmas.Option.{get_or_from_slice_get, slice_get_within}
use Rattle.otp_model.specs.declared.timetable.Run.{Run}
use Rattle.trip_patterns.specs.Lanes.{IsLane, LaneOf, empty_lane, with_run}
use Rattle.trip_patterns.specs.FirstFit.{AreLanesOf, AreOfOneBlock, IsOfLane, rows_of}
use Rattle.trip_patterns.specs.Putting.{ArePut, ArePutInto, FitsNone, IsJoined, IsOpened, IsPut}

-- the lanes of the runs so far
pub record AreLanesSoFar (runs so_far : List Run) (lanes : List LaneOf) : Type 0 where
  pub rows : IsPermutation so_far (rows_of lanes)
  pub filled : All (λ (lane : LaneOf). 0 < length lane.runs) lanes
  pub block : All (λ (lane : LaneOf). All (IsOfLane lane) runs) lanes

abbrev pub runs_in : LaneOf → List Run
runs_in lane = lane.runs

-- what is put at the end of one list of several
put_into : (lanes : List LaneOf) (n : ℕ) (lane : LaneOf) (run : Run) → slice_get lanes n ≡ Some lane
    → IsPermutation (run ∷ rows_of lanes) (rows_of (set lanes n (with_run lane run)))
put_into lanes n lane run at =
    let less = slice_get_within lanes n lane at in
    let here : get_or lanes n lane ≡ lane = get_or_from_slice_get lanes n lane lane at in
    let before : List Run = rows_of (take n lanes) in
    let behind : List Run = rows_of (drop (suc n) lanes) in
    let lane' : LaneOf = with_run lane run in
    let old : rows_of lanes ≡ (before ++ lane.runs) ++ behind
    = ap rows_of (sym (set-get_or lanes n lane) ∙ ap (λ (l : LaneOf). set lanes n l) here ∙ set_split lanes n lane less)
    ∙ flat_map-append runs_in (take n lanes) (lane ∷ drop (suc n) lanes) ∙ sym (append_assoc before lane.runs behind) in
    let new : rows_of (set lanes n lane') ≡ (before ++ lane.runs) ++ run ∷ behind
    = ap rows_of (set_split lanes n lane' less) ∙ flat_map-append runs_in (take n lanes) (lane' ∷ drop (suc n) lanes)
    ∙ ap (λ (xs : List Run). before ++ xs) (append_assoc lane.runs (run ∷ []) behind) ∙ sym (append_assoc before lane.runs (run ∷ behind)) in
    subst (λ (xs : List Run). IsPermutation (run ∷ xs) (rows_of (set lanes n lane'))) (sym old)
    (subst (λ (ys : List Run). IsPermutation (run ∷ ((before ++ lane.runs) ++ behind)) ys) (sym new)
    (IsPermutation-sym _ _ (IsPermutation-middle (before ++ lane.runs) run behind)))

pub more_lanes : (runs so_far : List Run) (run : Run) (before after : List LaneOf) → AreLanesSoFar runs so_far before → All (IsOfLane (empty_lane run)) runs
    → IsPut run before after → AreLanesSoFar runs (so_far ++ run ∷ []) after
more_lanes runs so_far run before after are of put = elim put [ inl joined ↦ join joined | inr opened ↦ open_one opened ]
  where
    join : IsJoined run before after → AreLanesSoFar runs (so_far ++ run ∷ []) after
    join put =
        let lane = put.found.lane in
        let less = slice_get_within before put.place lane put.found.lane_is in
        let here : get_or before put.place lane ≡ lane = get_or_from_slice_get before put.place lane lane put.found.lane_is in
        subst (AreLanesSoFar runs (so_far ++ run ∷ [])) (sym put.after_is) (record {
          rows = IsPermutation-push_more so_far (rows_of before) _ run are.rows (put_into before put.place lane run put.found.lane_is);
          filled = All-set (λ (l : LaneOf). 0 < length l.runs) before put.place (with_run lane run) (omega (arith, length_push lane.runs run)) are.filled;
          block = All-set (λ (l : LaneOf). All (IsOfLane l) runs) before put.place (with_run lane run)
              (same_block lane (subst (λ (l : LaneOf). All (IsOfLane l) runs) here (are.block put.place lane less))) are.block;
        })
      where
        same_block : (lane : LaneOf) → All (IsOfLane lane) runs → All (IsOfLane (with_run lane run)) runs
        same_block lane all k d less = let is = all k d less in record { day = is.day; pattern = is.pattern }

    open_one : IsOpened run before after → AreLanesSoFar runs (so_far ++ run ∷ []) after
    open_one put =
        let lane : LaneOf = with_run (empty_lane run) run in
        let rows : rows_of (before ++ lane ∷ []) ≡ rows_of before ++ run ∷ [] = flat_map-append runs_in before (lane ∷ []) in
        subst (AreLanesSoFar runs (so_far ++ run ∷ [])) (sym put.after_is) (record {
          rows = IsPermutation-push_more so_far (rows_of before) _ run are.rows
              (subst (λ (ys : List Run). IsPermutation (run ∷ rows_of before) ys) (sym rows) (IsPermutation-sym _ _ (IsPermutation-to_front (rows_of before) run)));
          filled = All-push (λ (l : LaneOf). 0 < length l.runs) before lane are.filled (omega arith);
          block = All-push (λ (l : LaneOf). All (IsOfLane l) runs) before lane are.block (λ k d less. let is = of k d less in record { day = is.day; pattern = is.pattern });
        })

pub no_lanes : (runs : List Run) → AreLanesSoFar runs [] []
no_lanes runs = record { rows = IsPermutation-refl []; filled = All-nil (λ (l : LaneOf). 0 < length l.runs); block = All-nil (λ (l : LaneOf). All (IsOfLane l) runs) }

-- the lanes of all runs
pub all_lanes : (runs : List Run) (n : ℕ) (lanes : List LaneOf) → length runs ≤ n → AreLanesSoFar runs (take n runs) lanes → All IsLane lanes → AreLanesOf runs lanes
all_lanes runs n lanes whole are each = record {
  rows = subst (λ (xs : List Run). IsPermutation xs (rows_of lanes)) (take_all n runs whole) are.rows;
  filled = are.filled;
  block = are.block;
  each = each;
}

-- one lane more that the run doesn't fit
pub unfit_more : (run : Run) (lanes : List LaneOf) (n : ℕ) (read : LaneOf) → FitsNone run lanes n → read ≡ get_or lanes n read
    → (IsLane (with_run read run) → ⊥) → FitsNone run lanes (n + 1)
unfit_more run lanes n read unfit is here k lane less at fits = elim (cases_lt k n) [
  | inl under ↦ unfit k lane under at fits
  | inr over ↦
      let e : k ≡ n = omega arith in
      let same : read ≡ lane = is ∙ ap (λ (m : ℕ). get_or lanes m read) (sym e) ∙ get_or_from_slice_get lanes k lane read at in
      here (subst (λ (l : LaneOf). IsLane (with_run l run)) (sym same) fits)
]

-- what two clauses say of one value
pub both_of : {X E : Type 0} (r : Result X E) (P Q R : X → Type 0) → ((x : X) → P x → Q x → R x) → IfOk r P → IfOk r Q → IfOk r R
both_of (Ok x) P Q R join p q = join x p q
both_of (Err e) P Q R join p q = tt

pub lanes_more : (runs : List Run) (n : ℕ) (run : Run) (before after : List LaneOf) → AreOfOneBlock runs → n < length runs → run ≡ get_or runs n run
    → AreLanesSoFar runs (take n runs) before → IsPut run before after → AreLanesSoFar runs (take (n + 1) runs) after
lanes_more runs n run before after block less read are put =
    let of : All (IsOfLane (empty_lane run)) runs = subst (λ (r : Run). All (IsOfLane (empty_lane r)) runs) (sym read) (block n run less) in
    let more : take (n + 1) runs ≡ take n runs ++ run ∷ [] = take_more runs n run less ∙ ap (λ (r : Run). take n runs ++ r ∷ []) (sym read) in
    subst (λ (xs : List Run). AreLanesSoFar runs xs after) (sym more) (more_lanes runs (take n runs) run before after are of put)

-- one run more is put
put_more : (runs : List Run) (run : Run) (first before after : List LaneOf) → ArePut runs first before → IsPut run before after → ArePut (runs ++ run ∷ []) first after
put_more [] run first before after are put = (after, subst (λ (ls : List LaneOf). IsPut run ls after) are put, refl)
put_more (r ∷ runs) run first before after are put = (are.0, are.1, put_more runs run are.0 before after are.2 put)

pub put_on : (runs : List Run) (n : ℕ) (run : Run) (before after : List LaneOf) → n < length runs → run ≡ get_or runs n run
    → ArePutInto (take n runs) before → IsPut run before after → ArePutInto (take (n + 1) runs) after
put_on runs n run before after less read are put =
    let more : take (n + 1) runs ≡ take n runs ++ run ∷ [] = take_more runs n run less ∙ ap (λ (r : Run). take n runs ++ r ∷ []) (sym read) in
    subst (λ (xs : List Run). ArePutInto xs after) (sym more) (put_more (take n runs) run [] before after are put)

-- all runs are put
pub all_put : (runs : List Run) (n : ℕ) (builders lanes : List LaneOf) → length runs ≤ n → ArePutInto (take n runs) builders → lanes ≡ builders → ArePutInto runs lanes
all_put runs n builders lanes whole are same =
    subst (λ (xs : List Run). ArePutInto xs lanes) (take_all n runs whole) (subst (λ (ls : List LaneOf). ArePutInto (take n runs) ls) (sym same) are)
