-- The rides of a schedule are those on the rows of its blocks.
use Rattle.std.proofs.Common.{◌≡◌, inl, inr, ℕ, List, [], ◌∷◌, Some, get_or, refl, sym, ap, subst, ◌∙◌, arith}
use Rattle.std.specs.List.{All, Contains, flat_map, slice_get}
use Rattle.std.proofs.lemmas.Bool.{cases_lt}
use Rattle.std.proofs.lemmas.List.Elements.{All-contains, Contains-append_cases, Contains-append_left, Contains-append_right}
use Rattle.std.proofs.lemmas.List.Sorted.{Contains-permutation, IsPermutation-sym}
use Rattle.std.proofs.lemmas.Option.{get_or_from_slice_get, same_Some, slice_get-get_or, slice_get_within}
use Rattle.otp_base.specs.Adds.{FromSome}
use Rattle.otp_model.specs.Beginnings.{Hop, IsHop}
use Rattle.otp_model.specs.Patterns.{Spot, spot_of}
use Rattle.otp_model.specs.declared.timetable.Run.{Run}
use Rattle.otp_model.specs.Journeys.{IsRideOn}
use Rattle.otp_model.specs.Ranges.{IsTimely}
use Rattle.trip_patterns.specs.FirstFit.{rows_of}
use Rattle.trip_patterns.specs.Lanes.{IsLane, LaneOf}
use Rattle.trip_patterns.specs.Timetables.{ArePlacesOf, IsBlock, IsPlaceOf, IsSameBlock, StandsFor}
use Rattle.trip_patterns.specs.declared.timetable.BlockStop.{BlockStop}
use Rattle.raptor_rounds.specs.declared.ready.Ready.{Ready}
use Rattle.end_bounds.specs.Bounds.{AreBounds, Bounds}
use Rattle.otp_model.specs.declared.journey.Request.{Request}
use Rattle.otp_model.specs.declared.timetable.Edges.{Edges}
use Rattle.raptor_rounds.specs.Closure.{Entry}
use Rattle.raptor_rounds.specs.RunBounds.{AreRideBounds, AreRunBounds}
use Rattle.raptor_rounds.specs.Rides.{Boards, CatchesAt, IsTimelyLane, StopsAt}
use Rattle.raptor_rounds.proofs.LaneLemmas.{all_at, pairs_at, spot_at}

-- ---- what a list has, and where

module _ {X : Type 0} where
  pub found_at : (xs : List X) (x : X) → (on : Contains xs x) → slice_get xs on.0 ≡ Some x
  found_at xs x on = slice_get-get_or xs on.0 x on.1 ∙ ap (λ (z : X). Some z) on.2

  pub has_at : (xs : List X) (i : ℕ) (x : X) → slice_get xs i ≡ Some x → Contains xs x
  has_at xs i x h = (i, slice_get_within xs i x h, get_or_from_slice_get xs i x x h)

has_rest : {X : Type 0} (x y : X) (xs : List X) → Contains xs y → Contains (x ∷ xs) y
has_rest x y xs on = Contains-append_right (x ∷ []) xs y on

has_first : {X : Type 0} (x : X) (xs : List X) → Contains (x ∷ xs) x
has_first x xs = (0, omega arith, refl)

has_flat : {X A : Type 0} (f : X → List A) (xs : List X) (x : X) (y : A) → Contains xs x → Contains (f x) y → Contains (flat_map f xs) y
has_flat f [] x y on has = absurd (omega (arith, on.1))
has_flat {X} {A} f (z ∷ xs) x y on has = elim (Contains-append_cases (z ∷ []) xs x on) [
  | inl first ↦ Contains-append_left (f z) (flat_map f xs) y (subst (λ (w : X). Contains (f w) y) (only first) has)
  | inr rest ↦ Contains-append_right (f z) (flat_map f xs) y (has_flat f xs x y rest has)
]
  where
    only : Contains (z ∷ []) x → x ≡ z
    only h = let i : h.0 ≡ 0 = omega (arith, h.1) in sym (subst (λ (k : ℕ). get_or (z ∷ []) k x ≡ x) i h.2)

flat_has : {X A : Type 0} (f : X → List A) (xs : List X) (y : A) → Contains (flat_map f xs) y → (x : X) × Contains xs x × Contains (f x) y
flat_has f [] y on = absurd (omega (arith, on.1))
flat_has f (z ∷ xs) y on = elim (Contains-append_cases (f z) (flat_map f xs) y on) [
  | inl first ↦ (z, has_first z xs, first)
  | inr rest ↦ let h = flat_has f xs y rest in (h.0, has_rest z h.0 xs h.1, h.2)
]

-- ---- rows and runs

module _ (blocks : List (List LaneOf)) (runs : List Run) (stands : StandsFor blocks runs) where
  -- a row is a run of the schedule
  pub run_of_row : (b k row : ℕ) (lanes : List LaneOf) (lane : LaneOf) (run : Run) → slice_get blocks b ≡ Some lanes → slice_get lanes k ≡ Some lane → slice_get lane.runs row ≡ Some run → Contains runs run
  run_of_row b k row lanes lane run h i j =
      Contains-permutation (flat_map rows_of blocks) runs run (IsPermutation-sym runs (flat_map rows_of blocks) stands.rows)
      (has_flat rows_of blocks lanes run (has_at blocks b lanes h) (has_flat (λ (x : LaneOf). x.runs) lanes lane run (has_at lanes k lane i) (has_at lane.runs row run j)))

  pub block_is : (b : ℕ) (lanes : List LaneOf) → slice_get blocks b ≡ Some lanes → IsBlock lanes
  block_is b lanes h = all_at IsBlock blocks b lanes stands.blocks_are h

  pub timely_lane : (b k : ℕ) (lanes : List LaneOf) (lane : LaneOf) → All IsTimely runs → slice_get blocks b ≡ Some lanes → slice_get lanes k ≡ Some lane → IsTimelyLane lane
  timely_lane b k lanes lane all h i = record {
    is_lane = all_at IsLane lanes k lane (block_is b lanes h).lanes_are i;
    timely = λ row d less.
        let run = get_or lane.runs row d in
        All-contains IsTimely runs run all (run_of_row b k row lanes lane run h i (slice_get-get_or lane.runs row d less));
  }

  pub timely_lanes : (b : ℕ) (lanes : List LaneOf) → All IsTimely runs → slice_get blocks b ≡ Some lanes → All IsTimelyLane lanes
  timely_lanes b lanes all h k d less = timely_lane b k lanes (get_or lanes k d) all h (slice_get-get_or lanes k d less)

  -- all lanes of a block have one pattern
  same_pattern : (b i j : ℕ) (lanes : List LaneOf) (x y : LaneOf) → slice_get blocks b ≡ Some lanes → slice_get lanes i ≡ Some x → slice_get lanes j ≡ Some y → x.pattern ≡ y.pattern
  same_pattern b i j lanes x y h at_i at_j = elim (cases_lt i j) [
    | inl less ↦ (pairs_at IsSameBlock lanes i j x y (block_is b lanes h).same less at_i at_j).pattern
    | inr more ↦ elim (cases_lt j i) [
      | inl less ↦ sym ((pairs_at IsSameBlock lanes j i y x (block_is b lanes h).same less at_j at_i).pattern)
      | inr back ↦ same (omega (arith, more, back))
    ]
  ]
    where
      same : i ≡ j → x.pattern ≡ y.pattern
      same e = ap (λ (z : LaneOf). z.pattern) (same_Some x y (sym at_i ∙ subst (λ (n : ℕ). slice_get lanes n ≡ Some y) (sym e) at_j))

  -- at a place of a stop each lane of the block calls there
  pub stops_at : (stop : ℕ) (place : BlockStop) (lanes : List LaneOf) → IsPlaceOf blocks stop place → slice_get blocks place.block ≡ Some lanes → All (StopsAt place.position stop) lanes
  stops_at stop place lanes is h k d less = record {
    spot = is.spot;
    spot_is = subst (λ (spots : List Spot). slice_get spots place.position ≡ Some is.spot) same is.spot_is;
    stop_is = is.stop_is;
  }
    where
      one : is.lanes ≡ lanes
      one = same_Some is.lanes lanes (sym is.lanes_are ∙ h)

      on : Contains lanes is.lane
      on = subst (λ (z : List LaneOf). Contains z is.lane) one is.lane_is

      same : is.lane.pattern ≡ (get_or lanes k d).pattern
      same = same_pattern place.block on.0 k lanes is.lane (get_or lanes k d) h (found_at lanes is.lane on) (slice_get-get_or lanes k d less)

  -- a ride of the schedule is on a row of a lane that calls at its stop
  pub record IsOnRow (h : Hop) : Type 0 where
    pub place : BlockStop
    pub is_place : IsPlaceOf blocks h.board.stop place
    pub lanes : List LaneOf
    pub lanes_are : slice_get blocks place.block ≡ Some lanes
    pub number : ℕ
    pub lane : LaneOf
    pub lane_is : slice_get lanes number ≡ Some lane
    pub row : ℕ
    pub run : Run
    pub run_is : slice_get lane.runs row ≡ Some run
    pub to : ℕ
    pub ride : IsRideOn run place.position to h.name h.board h.alight

  pub on_row : (h : Hop) → IsHop runs h → IsOnRow h
  on_row h ride =
      let in_block = flat_has rows_of blocks ride.run (Contains-permutation runs (flat_map rows_of blocks) ride.run stands.rows ride.on) in
      let in_lane = flat_has (λ (x : LaneOf). x.runs) in_block.0 ride.run in_block.2 in
      let b = in_block.1.0 in
      let lanes_are = found_at blocks in_block.0 in_block.1 in
      let lane = in_lane.0 in
      let lane_is = found_at in_block.0 lane in_lane.1 in
      let run_is = found_at lane.runs ride.run in_lane.2 in
      let is = ride.is in
      record {
        place = record { block = b; position = ride.from };
        is_place = record {
          lanes = in_block.0;
          lanes_are = lanes_are;
          lane = lane;
          lane_is = in_lane.1;
          spot = spot_of h.board;
          spot_is = spot_at lane (all_at IsLane in_block.0 in_lane.1.0 lane (block_is b in_block.0 lanes_are).lanes_are lane_is) in_lane.2.0 ride.run run_is ride.from h.board is.boards;
          stop_is = refl;
        };
        lanes = in_block.0;
        lanes_are = lanes_are;
        number = in_lane.1.0;
        lane = lane;
        lane_is = lane_is;
        row = in_lane.2.0;
        run = ride.run;
        run_is = run_is;
        to = ride.to;
        ride = ride.is;
      }

  -- what is boarded at a stop is boarded at one of its places
  pub boards_at_place : (b : Ready) (places : List BlockStop) (e : Entry) → ArePlacesOf blocks b.stop places → Boards runs b e → FromSome (CatchesAt blocks b) places e
  boards_at_place b places e are q =
      let x = on_row q.hop q.ride in
      let place = subst (λ (stop : ℕ). IsPlaceOf blocks stop x.place) q.stop_is x.is_place in (
        x.place,
        are.whole x.place place,
        (
          x.lanes,
          x.lanes_are,
          (
            x.number,
            slice_get_within x.lanes x.number x.lane x.lane_is,
            (
              x.lane,
              x.lane_is,
              record {
                row = x.row;
                run = x.run;
                run_is = x.run_is;
                to = x.to;
                name = (q.hop).name;
                board = (q.hop).board;
                alight = (q.hop).alight;
                ride = x.ride;
                in_time = q.in_time;
                entry_is = q.entry_is;
              },
            ),
          ),
        ),
      )

-- ---- bounds

pub ride_bounds : (blocks : List (List LaneOf)) (edges : Edges) (r : Request) (b : Bounds) → AreBounds blocks edges r b → AreRideBounds blocks r b
ride_bounds blocks edges r b bounds = record {
  each = λ block lanes lane at on. record { each = λ run from to name board alight row timely ride more few within. bounds.rides block lanes lane run from to name board alight more at on row timely ride few within };
}

-- a run of the schedule is bounded where it stands
pub run_bounds : (blocks : List (List LaneOf)) (runs : List Run) → StandsFor blocks runs → (edges : Edges) (r : Request) (b : Bounds) → All IsTimely runs → AreBounds blocks edges r b → AreRunBounds runs edges r b
run_bounds blocks runs stands edges r b timely bounds = record {
  ends = bounds.ends;
  walks = bounds.walks;
  rides = λ run from to name board alight on ride.
      let in_block = flat_has rows_of blocks run (Contains-permutation runs (flat_map rows_of blocks) run stands.rows on) in
      let in_lane = flat_has (λ (x : LaneOf). x.runs) in_block.0 run in_block.2 in
      record {
        block = in_block.1.0;
        bound = λ more few within. bounds.rides in_block.1.0 in_block.0 in_lane.0 run from to name board alight more (found_at blocks in_block.0 in_block.1) in_lane.1 in_lane.2 (All-contains IsTimely runs run timely on) ride few within;
      };
}
