-- Rides that are left out, since they are lost.
use Rattle.std.proofs.Common.{◌≡◌, ◌⊎◌, inl, inr, ℕ, ℤ, ◌≤ℤ◌, List, Some, get_or, sym, ap, subst, ◌∙◌}
use Rattle.std.specs.List.{All, slice_get}
use Rattle.std.proofs.lemmas.Option.{same_Some, slice_get-get_or}
use Rattle.otp_model.specs.Patterns.{Spot, spot_of}
use Rattle.otp_model.specs.Ranges.{IsCallInRange, IsTime, IsTimely}
use Rattle.otp_model.specs.declared.journey.Request.{Request}
use Rattle.otp_model.specs.declared.timetable.Call.{Call}
use Rattle.otp_model.specs.declared.timetable.Run.{Run}
use Rattle.end_bounds.specs.Bounds.{Bounds}
use Rattle.trip_patterns.specs.Lanes.{IsCallAt, LaneOf}
use Rattle.trip_patterns.specs.Spans.{IsSpanOf, IsWithinSpan}
use Rattle.trip_patterns.specs.Timetables.{IsPlaceOf, StandsFor}
use Rattle.trip_patterns.specs.declared.span.Span.{Span}
use Rattle.trip_patterns.specs.declared.timetable.BlockStop.{BlockStop}
use Rattle.raptor_rounds.specs.declared.ready.Ready.{Ready}
use Rattle.raptor_rounds.specs.declared.state.RoundState.{RoundState}
use Rattle.raptor_rounds.specs.Closure.{Entry, IsLostEntry}
use Rattle.raptor_rounds.specs.Labels.{InFinals}
use Rattle.raptor_rounds.specs.Rides.{Boards, Catches, CatchesAt, IsInTime, IsTimelyLane, StopsAt}
use Rattle.raptor_rounds.specs.RunBounds.{AreRideBounds, IsLaneBound}
use Rattle.raptor_rounds.specs.States.{IsLostFrom, IsLostStop, IsStateSettled, bounds_of}
use Rattle.raptor_rounds.proofs.BlockLemmas.{has_at, on_row, stops_at, timely_lane}
use Rattle.raptor_rounds.proofs.LaneLemmas.{all_at, spot_at}
use Rattle.raptor_rounds.proofs.LostLemmas.{place_lost, ready_lost}

module _ (r : Request) (s : RoundState) (b : Ready) where
  -- on a lane, from the time on
  pub lost_catch : (lane : LaneOf) (block position : ℕ) (t : ℤ) → IsLaneBound r (bounds_of s) block lane → IsTimelyLane lane → StopsAt position b.stop lane → IsLostFrom r s b block position t
      → (e : Entry) → (q : Catches lane b position e) → t ≤ℤ q.board.departure → IsStateSettled r s e
  lost_catch lane block position t bound timely stops lost e q after =
      let ride = q.ride in
      let spot = spot_at lane timely.is_lane q.row q.run q.run_is position q.board ride.boards in
      let one : stops.spot ≡ spot_of q.board = same_Some stops.spot (spot_of q.board) (sym stops.spot_is ∙ spot) in
      let stop : q.board.stop ≡ b.stop = sym (ap (λ (z : Spot). z.stop) one) ∙ stops.stop_is in
      inr (subst (IsLostEntry r (bounds_of s) (InFinals s.finals.items)) (sym q.entry_is)
      (place_lost r (bounds_of s) (InFinals s.finals.items) block position q.board q.alight b.stop b.departure b.rides t b.penalty stop after lost.further
      (bound.each q.run position q.to q.name q.board q.alight (has_at lane.runs q.row q.run q.run_is) (all_at IsTimely lane.runs q.row q.run timely.timely q.run_is) q.ride) lost.lost))

  module _ (runs : List Run) (blocks : List (List LaneOf)) (stands : StandsFor blocks runs) (timely : All IsTimely runs) (bounds : AreRideBounds blocks r (bounds_of s)) where
    -- from a stop
    pub lost_boards : IsLostStop r s b → (e : Entry) → Boards runs b e → IsStateSettled r s e
    lost_boards lost e q =
        let h = q.hop in
        let x = on_row blocks runs stands h q.ride in
        let t = q.in_time in
        inr (subst (IsLostEntry r (bounds_of s) (InFinals s.finals.items)) (sym q.entry_is)
        (ready_lost r (bounds_of s) (InFinals s.finals.items) x.place.block x.place.position h.board h.alight b.stop b.departure b.rides b.time b.penalty q.stop_is t.not_before lost.further
        ((bounds.each x.place.block x.lanes x.lane x.lanes_are (has_at x.lanes x.number x.lane x.lane_is)).each x.run x.place.position x.to h.name h.board h.alight (has_at x.lane.runs x.row x.run x.run_is)
        (all_at IsTimely x.lane.runs x.row x.run (timely_lane blocks runs stands x.place.block x.number x.lanes x.lane timely x.lanes_are x.lane_is).timely x.run_is) x.ride) lost.lost))

    module _ (place : BlockStop) (is_place : IsPlaceOf blocks b.stop place) (lanes : List LaneOf) (lanes_are : slice_get blocks place.block ≡ Some lanes) (span : Span) (is_span : IsSpanOf lanes span) where
      -- each boarding is within the block's span
      spanned : (number : ℕ) (lane : LaneOf) → slice_get lanes number ≡ Some lane → (e : Entry) → (q : Catches lane b place.position e) → IsWithinSpan span q.board.departure
      spanned number lane lane_is e q =
          let ride = q.ride in
          (is_span.each lane (has_at lanes number lane lane_is)).each q.run q.board (has_at lane.runs q.row q.run q.run_is)
          (all_at IsTimely lane.runs q.row q.run (timely_lane blocks runs stands place.block number lanes lane timely lanes_are lane_is).timely q.run_is) (has_at q.run.calls place.position q.board ride.boards)

      pub none_depart : ((time : ℤ) → IsInTime b time → IsWithinSpan span time → ⊥) → (e : Entry) → CatchesAt blocks b place e → ⊥
      none_depart never e q =
          let one : q.0 ≡ lanes = same_Some q.0 lanes (sym q.1 ∙ lanes_are) in
          let c = q.2.2 in
          let at = subst (λ (xs : List LaneOf). slice_get xs q.2.0 ≡ Some c.0) one c.1 in
          never c.2.board.departure c.2.in_time (spanned q.2.0 c.0 at e c.2)

      pub lost_place : (t : ℤ) → (t ≡ b.time) ⊎ (t ≡ span.first) → IsLostFrom r s b place.block place.position t → (e : Entry) → CatchesAt blocks b place e → IsStateSettled r s e
      lost_place t either lost e q =
          let one : q.0 ≡ lanes = same_Some q.0 lanes (sym q.1 ∙ lanes_are) in
          let c = q.2.2 in
          let at = subst (λ (xs : List LaneOf). slice_get xs q.2.0 ≡ Some c.0) one c.1 in
          let within = spanned q.2.0 c.0 at e c.2 in
          let on_time = c.2.in_time in
          lost_catch c.0 place.block place.position t (bounds.each place.block lanes c.0 lanes_are (has_at lanes q.2.0 c.0 at)) (timely_lane blocks runs stands place.block q.2.0 lanes c.0 timely lanes_are at)
          (all_at (StopsAt place.position b.stop) lanes q.2.0 c.0 (stops_at blocks runs stands b.stop place lanes is_place lanes_are) at) lost e c.2
          (elim either [ inl e ↦ rw e on_time.not_before | inr e ↦ rw e within.first ])

-- the state's bounds stay
pub bounds_stay : (blocks : List (List LaneOf)) (r : Request) (old new : RoundState) → new.aim ≡ old.aim → AreRideBounds blocks r (bounds_of old) → AreRideBounds blocks r (bounds_of new)
bounds_stay blocks r old new same bounds = rw same bounds

pub lane_bounds : (blocks : List (List LaneOf)) (r : Request) (bounds : Bounds) (block : ℕ) (lanes : List LaneOf) → slice_get blocks block ≡ Some lanes → AreRideBounds blocks r bounds → All (IsLaneBound r bounds block) lanes
lane_bounds blocks r bounds block lanes at are k d less = are.each block lanes (get_or lanes k d) at (has_at lanes k (get_or lanes k d) (slice_get-get_or lanes k d less))

-- a row that is boarded departs at a time that is searched
pub departs_soon : (lane : LaneOf) (row position : ℕ) (call : Call) → IsTimelyLane lane → IsCallAt lane.runs row position call → IsTime call.departure
departs_soon lane row position call timely at = (all_at IsCallInRange at.run.calls position call ((all_at IsTimely lane.runs row at.run timely.timely at.run_is).in_range) at.call_is).1
