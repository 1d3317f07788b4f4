-- What is boarded: lane by lane, place by place, edge by edge.
use Rattle.std.proofs.Common.{◌≡◌, ℕ, ◌<◌, true, false, IsTrue, List, Some, length, refl, sym, ap, subst, ◌∙◌}
use Rattle.std.specs.List.{slice_get}
use Rattle.std.proofs.lemmas.Option.{same_Some}
use Rattle.otp_base.specs.Adds.{FromBelow}
use Rattle.otp_model.specs.declared.journey.Request.{Request}
use Rattle.otp_model.specs.declared.timetable.Call.{Call}
use Rattle.otp_model.specs.declared.timetable.Run.{Run}
use Rattle.trip_patterns.specs.Lanes.{IsCallAt, LaneOf}
use Rattle.trip_patterns.specs.declared.timetable.BlockStop.{BlockStop}
use Rattle.raptor_rounds.specs.declared.node.Node.{Node}
use Rattle.raptor_rounds.specs.declared.ready.LanePlace.{LanePlace}
use Rattle.raptor_rounds.specs.declared.ready.Ready.{Ready}
use Rattle.raptor_rounds.specs.declared.state.RoundState.{RoundState}
use Rattle.raptor_rounds.specs.Closure.{Entry}
use Rattle.raptor_rounds.specs.Rides.{AlightsAt, Catches, CatchesAt, CatchesIn, IsBoarded, IsReadyInRange, IsRidden, IsRiddenInBlock, IsRiddenOn, IsTimelyLane, alight_entry, node_at}
use Rattle.raptor_rounds.specs.States.{IsEntryOf, IsItself, Settles}
use Rattle.raptor_rounds.proofs.LaneLemmas.{node_ridden}
use Rattle.raptor_rounds.proofs.SettleLemmas.{settles_for}

-- a row has one call at a position
same_call : (lane : LaneOf) (b : Ready) (position row to : ℕ) (call : Call) → IsCallAt lane.runs row to call → (e : Entry) → (q : AlightsAt lane b position row to e) → q.alight ≡ call
same_call lane b position row to call at e q =
    let one : q.run ≡ at.run = same_Some q.run at.run (sym q.run_is ∙ at.run_is) in
    same_Some q.alight call (sym q.alight_is ∙ subst (λ (z : Run). slice_get z.calls to ≡ Some call) (sym one) at.call_is)

-- a lane of a block
pub settles_lane : (r : Request) (lanes : List LaneOf) (b : Ready) (place : BlockStop) (number : ℕ) (lane : LaneOf) (old new : RoundState) → slice_get lanes number ≡ Some lane
    → Settles r b.departure (Catches lane b place.position) (IsRiddenOn lane b place.block number) old new
    → Settles r b.departure (CatchesIn lanes b place.position number) (IsRiddenInBlock lanes b place.block) old new
settles_lane r lanes b place number lane old new is = settles_for r b.departure (Catches lane b place.position) (CatchesIn lanes b place.position number)
    (IsRiddenOn lane b place.block number) (IsRiddenInBlock lanes b place.block) old new
    (λ e q. subst (λ (x : LaneOf). Catches x b place.position e) (same_Some q.0 lane (sym q.1 ∙ is)) q.2)
    (λ n p. (
      p.block_is,
      (
        lane,
        subst (λ (k : ℕ). slice_get lanes k ≡ Some lane) (sym p.lane_is) is,
        record {
          block_is = refl;
          lane_is = refl;
          run = p.run;
          run_is = p.run_is;
          name = p.name;
          board = p.board;
          alight = p.alight;
          ride = p.ride;
          stop_is = p.stop_is;
          in_time = p.in_time;
          entry_is = p.entry_is;
          parent_is = p.parent_is;
          walk_is = p.walk_is;
        },
      ),
    ))

-- a block
pub settles_block : (r : Request) (blocks : List (List LaneOf)) (lanes : List LaneOf) (b : Ready) (place : BlockStop) (old new : RoundState) → slice_get blocks place.block ≡ Some lanes
    → Settles r b.departure (FromBelow (CatchesIn lanes b place.position) (length lanes)) (IsRiddenInBlock lanes b place.block) old new
    → Settles r b.departure (CatchesAt blocks b place) (IsRidden blocks b) old new
settles_block r blocks lanes b place old new is = settles_for r b.departure (FromBelow (CatchesIn lanes b place.position) (length lanes)) (CatchesAt blocks b place)
    (IsRiddenInBlock lanes b place.block) (IsRidden blocks b) old new
    (λ e q. subst (λ (x : List LaneOf). FromBelow (CatchesIn x b place.position) (length x) e) (same_Some q.0 lanes (sym q.1 ∙ is)) q.2)
    (λ n p. (lanes, subst (λ (k : ℕ). slice_get blocks k ≡ Some lanes) (sym p.0) is, p.1))

-- ---- one alighting

-- where it is barred
pub alights_barred : (lane : LaneOf) (b : Ready) (position row to : ℕ) (call : Call) → IsCallAt lane.runs row to call → call.alight ≡ false → (e : Entry) → AlightsAt lane b position row to e → ⊥
alights_barred lane b position row to call at barred e q =
    let one = same_call lane b position row to call at e q in
    let yes : call.alight ≡ true = subst (λ (x : Call). IsTrue x.alight) one q.may in
    cc

-- where it is allowed, by the label of it
pub settles_alight : (lane : LaneOf) (r : Request) (b : Ready) (at : LanePlace) (row to : ℕ) (call : Call) (n : Node) (old new : RoundState) → IsTimelyLane lane → IsReadyInRange r b → IsBoarded lane b at.position row
    → at.position < to → IsCallAt lane.runs row to call → IsTrue call.alight → n ≡ node_at b at row to call → Settles r n.departure (IsEntryOf n) (IsItself n) old new
    → Settles r b.departure (AlightsAt lane b at.position row to) (IsRiddenOn lane b at.block at.lane) old new
settles_alight lane r b at row to call n old new timely ready boarded after alights may is s =
    settles_for r b.departure (IsEntryOf (node_at b at row to call)) (AlightsAt lane b at.position row to) (IsItself (node_at b at row to call)) (IsRiddenOn lane b at.block at.lane) old new
    (λ e q. sym (q.entry_is ∙ ap (alight_entry b) (same_call lane b at.position row to call alights e q)))
    (λ m same. subst (IsRiddenOn lane b at.block at.lane) same (node_ridden lane r b at row to call timely ready boarded after alights may))
    (subst (λ (x : Node). Settles r x.departure (IsEntryOf x) (IsItself x) old new) is s)
