-- The first row of a lane that is in time is as good as any other that is.
use Rattle.std.proofs.Common.{◌≡◌, inl, inr, ℕ, ◌≤◌, ◌<◌, ℤ, ◌≤ℤ◌, ◌<ℤ◌, List, Bool, true, false, Option, Some, None, length, map, get_or, refl, sym, ap, subst, ◌∙◌, arith, IsTrue, IfSome}
use Rattle.std.specs.List.{All, AllPairs, slice_get}
use Rattle.std.specs.Option.{option_map}
use Rattle.std.proofs.lemmas.Bool.{cases_lt}
use Rattle.std.proofs.lemmas.Int.{ints}
use Rattle.std.proofs.lemmas.List.{length-map}
use Rattle.std.proofs.lemmas.Option.{get_or_from_slice_get, same_Some, slice_get-get_or, slice_get-map, slice_get_within}
use Rattle.otp_base.specs.Adds.{FromBelow}
use Rattle.otp_model.specs.Patterns.{Spot, pattern_of, spot_of}
use Rattle.otp_model.specs.declared.journey.Request.{Request}
use Rattle.otp_model.specs.declared.timetable.Call.{Call}
use Rattle.otp_model.specs.declared.timetable.Run.{Run}
use Rattle.otp_model.specs.Ranges.{IsCallInRange, IsTimely}
use Rattle.trip_patterns.specs.Lanes.{IsCallAt, IsFirstCatch, IsLane, IsNoEarlier, LaneOf}
use Rattle.raptor_rounds.specs.declared.ready.LanePlace.{LanePlace}
use Rattle.raptor_rounds.specs.declared.ready.Ready.{Ready}
use Rattle.raptor_rounds.specs.Closure.{Entry, IsNoWorse}
use Rattle.raptor_rounds.specs.Rides.{AlightsAt, Catches, IsBoarded, IsNodeInRange, IsReadyInRange, IsRiddenOn, IsTimelyLane, IsUntil, StopsAt, alight_entry, node_at}
use Rattle.raptor_rounds.proofs.LostLemmas.{same_ℤ, trans_ℤ}

-- what holds of each holds of the one that is read
pub all_at : {X : Type 0} (P : X → Type 0) (xs : List X) (i : ℕ) (x : X) → All P xs → slice_get xs i ≡ Some x → P x
all_at P xs i x all h = subst P (get_or_from_slice_get xs i x x h) (all i x (slice_get_within xs i x h))

pub pairs_at : {X : Type 0} (P : X → X → Type 0) (xs : List X) (i j : ℕ) (x y : X) → AllPairs P xs → i < j → slice_get xs i ≡ Some x → slice_get xs j ≡ Some y → P x y
pairs_at P xs i j x y pairs less h k =
    subst (λ z. P z y) (get_or_from_slice_get xs i x y h) (subst (λ z. P (get_or xs i y) z) (get_or_from_slice_get xs j y y k) (pairs i j y less (slice_get_within xs j y k)))

-- ---- calls and the pattern

module _ (lane : LaneOf) (is : IsLane lane) (row : ℕ) (run : Run) (run_is : slice_get lane.runs row ≡ Some run) where
  pattern_is : map spot_of run.calls ≡ lane.pattern
  pattern_is = all_at (λ (x : Run). pattern_of x ≡ lane.pattern) lane.runs row run is.pattern run_is

  -- the pattern has the spot of each call
  pub spot_at : (k : ℕ) (call : Call) → slice_get run.calls k ≡ Some call → slice_get lane.pattern k ≡ Some (spot_of call)
  spot_at k call h = subst (λ (spots : List Spot). slice_get spots k ≡ Some (spot_of call)) pattern_is (slice_get-map spot_of run.calls k ∙ ap (option_map spot_of) h)

  pub within_pattern : (k : ℕ) (call : Call) → slice_get run.calls k ≡ Some call → k < length lane.pattern
  within_pattern k call h = slice_get_within lane.pattern k (spot_of call) (spot_at k call h)

  -- and a row has a call at each position
  pub call_at : (k : ℕ) (d : Call) → k < length lane.pattern → slice_get run.calls k ≡ Some (get_or run.calls k d)
  call_at k d less =
      let count : length (map spot_of run.calls) ≡ length lane.pattern = ap (λ (spots : List Spot). length spots) pattern_is in
      slice_get-get_or run.calls k d (omega (arith, less, count, length-map run.calls spot_of))

-- ---- rows in order

pub no_earlier_at : (lane : LaneOf) → IsLane lane → (i j k : ℕ) (x y : Call) → i ≤ j → IsCallAt lane.runs i k x → IsCallAt lane.runs j k y → (x.arrival ≤ℤ y.arrival) × (x.departure ≤ℤ y.departure)
no_earlier_at lane is i j k x y order a b = elim (cases_lt i j) [
  | inl less ↦ (pairs_at IsNoEarlier lane.runs i j a.run b.run is.order less a.run_is b.run_is).each k x y a.call_is b.call_is
  | inr more ↦ same (omega (arith, order, more))
]
  where
    same : i ≡ j → (x.arrival ≤ℤ y.arrival) × (x.departure ≤ℤ y.departure)
    same e =
        let one : b.run ≡ a.run = same_Some b.run a.run (sym b.run_is ∙ subst (λ (n : ℕ). slice_get lane.runs n ≡ Some a.run) e a.run_is) in
        let call : x ≡ y = same_Some x y (sym a.call_is ∙ subst (λ (z : Run). slice_get z.calls k ≡ Some y) one b.call_is) in
        subst (λ (z : Call). (x.arrival ≤ℤ z.arrival) × (x.departure ≤ℤ z.departure)) call (same_ℤ x.arrival, same_ℤ x.departure)

pub until_earlier : (latest : Option ℤ) (s t : ℤ) → s ≤ℤ t → IsUntil latest t → IsUntil latest s
until_earlier None s t l u = tt
until_earlier (Some latest) s t l u = trans_ℤ s t latest l u

not_before : (t u : ℤ) → u <ℤ t → t ≤ℤ u → ⊥
not_before t u a b = absurd (omega (arith, ints, a, b))

module _ (lane : LaneOf) (b : Ready) (position row : ℕ) (is : IsLane lane) (first : IsFirstCatch lane.runs position b.time row) (e : Entry) (q : Catches lane b position e) where
  boards : IsCallAt lane.runs q.row position q.board
  boards = record { run = q.run; run_is = q.run_is; call_is = let ride = q.ride in ride.boards }

  alights : IsCallAt lane.runs q.row q.to q.alight
  alights = record { run = q.run; run_is = q.run_is; call_is = let ride = q.ride in ride.alights }

  -- no row before the first is in time
  not_missed : row ≤ q.row
  not_missed = elim (cases_lt q.row row) [ inl less ↦ absurd (not_before b.time q.board.departure (first.missed q.row q.board less boards) (let t = q.in_time in t.not_before)) | inr more ↦ more ]

  pub catches_none : length lane.runs ≤ row → ⊥
  catches_none past = let l = slice_get_within lane.runs q.row q.run q.run_is in let m = not_missed in absurd (omega (arith, l, m, past))

  -- and none departs before it
  pub first_departs : (call : Call) → IsCallAt lane.runs row position call → call.departure ≤ℤ q.board.departure
  first_departs call at = (no_earlier_at lane is row q.row position call q.board not_missed at boards).1

  pub catches_late : (call : Call) → IsCallAt lane.runs row position call → (IsUntil b.latest call.departure → ⊥) → ⊥
  catches_late call at late =
      late (until_earlier b.latest call.departure q.board.departure (no_earlier_at lane is row q.row position call q.board not_missed at boards).1 (let t = q.in_time in t.until))

  pub first_is_best : (run : Run) → slice_get lane.runs row ≡ Some run → (x : Entry) × FromBelow (AlightsAt lane b position row) (length lane.pattern) x × IsNoWorse x e
  first_is_best run run_is =
      let ride = q.ride in
      let within = within_pattern lane is q.row q.run q.run_is q.to q.alight ride.alights in
      let call = get_or run.calls q.to q.alight in
      let call_is = call_at lane is row run run_is q.to q.alight within in
      let early = (no_earlier_at lane is row q.row q.to call q.alight not_missed (record { run = run; run_is = run_is; call_is = call_is }) alights).0 in
      let spots : spot_of call ≡ spot_of q.alight = same_Some (spot_of call) (spot_of q.alight) (sym (spot_at lane is row run run_is q.to call call_is) ∙ spot_at lane is q.row q.run q.run_is q.to q.alight ride.alights) in
      let may : IsTrue call.alight = subst (λ (flag : Bool). IsTrue flag) (sym (ap (λ (s : Spot). s.alight) spots)) ride.may_alight in (
        alight_entry b call,
        (
          q.to,
          within,
          record {
            run = run;
            run_is = run_is;
            after = ride.before;
            alight = call;
            alight_is = call_is;
            may = may;
            entry_is = refl;
          },
        ),
        subst (IsNoWorse (alight_entry b call)) (sym q.entry_is) (record {
          same = ap (λ (s : Spot). s.stop) spots;
          late = same_ℤ b.departure;
          few = omega arith;
          early = early;
          cheap = omega arith;
        }),
      )

-- where a pattern bars boarding, no row may be boarded
pub catches_barred : (lane : LaneOf) (b : Ready) (position : ℕ) → IsLane lane → (may : Bool) → IfSome (slice_get lane.pattern position) (λ (s : Spot). may ≡ s.board) → may ≡ false
    → (e : Entry) → Catches lane b position e → ⊥
catches_barred lane b position is may may_is barred e q =
    let ride = q.ride in
    let spot = spot_at lane is q.row q.run q.run_is position q.board ride.boards in
    let same : may ≡ q.board.board = subst (λ (o : Option Spot). IfSome o (λ (s : Spot). may ≡ s.board)) spot may_is in
    let no : q.board.board ≡ false = sym same ∙ barred in
    let yes : q.board.board ≡ true = ride.may_board in
    cc

-- the first row is boarded
pub boarded_first : (lane : LaneOf) (b : Ready) (position row : ℕ) (call : Call) (may : Bool) → IsLane lane → IsFirstCatch lane.runs position b.time row → StopsAt position b.stop lane
    → IfSome (slice_get lane.pattern position) (λ (s : Spot). may ≡ s.board) → IsTrue may → IsCallAt lane.runs row position call → IsUntil b.latest call.departure → IsBoarded lane b position row
boarded_first lane b position row call may is first stops may_is allowed at until =
    let spot = spot_at lane is row at.run at.run_is position call at.call_is in
    let same : may ≡ call.board = subst (λ (o : Option Spot). IfSome o (λ (s : Spot). may ≡ s.board)) spot may_is in
    let stop : stops.spot ≡ spot_of call = same_Some stops.spot (spot_of call) (sym stops.spot_is ∙ spot) in
    record {
      run = at.run;
      run_is = at.run_is;
      board = call;
      board_is = at.call_is;
      stop_is = sym (ap (λ (s : Spot). s.stop) stop) ∙ stops.stop_is;
      may = subst (λ (flag : Bool). IsTrue flag) same allowed;
      in_time = record { not_before = first.caught call at; until = until };
    }

-- ---- one alighting

module _ (lane : LaneOf) (r : Request) (b : Ready) (at : LanePlace) (row to : ℕ) (call : Call) (timely : IsTimelyLane lane) (ready : IsReadyInRange r b) (boarded : IsBoarded lane b at.position row)
    (after : at.position < to) (alights : IsCallAt lane.runs row to call) where
  one_run : alights.run ≡ boarded.run
  one_run = same_Some alights.run boarded.run (sym alights.run_is ∙ boarded.run_is)

  alight_is : slice_get boarded.run.calls to ≡ Some call
  alight_is = subst (λ (z : Run). slice_get z.calls to ≡ Some call) one_run alights.call_is

  run_timely : IsTimely boarded.run
  run_timely = all_at IsTimely lane.runs row boarded.run timely.timely boarded.run_is

  forward : boarded.board.departure ≤ℤ call.arrival
  forward = pairs_at (λ (earlier later : Call). earlier.departure ≤ℤ later.arrival) boarded.run.calls at.position to boarded.board call run_timely.forward after boarded.board_is alight_is

  pub node_in_range : IsNodeInRange r (node_at b at row to call)
  node_in_range = record {
    some = ready.some;
    few = ready.few;
    departs = ready.departs;
    arrives = (all_at IsCallInRange boarded.run.calls to call run_timely.in_range alight_is).0;
    forward = trans_ℤ b.departure b.time call.arrival ready.forward (trans_ℤ b.time boarded.board.departure call.arrival (let t = boarded.in_time in t.not_before) forward);
    little = ready.little;
  }

  pub node_ridden : IsTrue call.alight → IsRiddenOn lane b at.block at.lane (node_at b at row to call)
  node_ridden may = record {
    block_is = refl;
    lane_is = refl;
    run = boarded.run;
    run_is = boarded.run_is;
    name = boarded.run.name;
    board = boarded.board;
    alight = call;
    ride = record { name_is = refl; before = after; boards = boarded.board_is; alights = alight_is; may_board = boarded.may; may_alight = may };
    stop_is = boarded.stop_is;
    in_time = boarded.in_time;
    entry_is = refl;
    parent_is = refl;
    walk_is = refl;
  }
