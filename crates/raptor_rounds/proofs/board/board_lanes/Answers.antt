use Rattle.raptor_rounds.specs.RunBounds.{IsLaneBound}
use Rattle.raptor_rounds.specs.States.{bounds_of}
use Rattle.std.proofs.Common.{arith, length, refl}
use Rattle.std.proofs.lemmas.Option.{slice_get_read}
use Rattle.raptor_rounds.specs.Rides.{CatchesIn, IsRiddenInBlock, IsTimelyLane}
use Rattle.raptor_rounds.proofs.BoardLemmas.{settles_lane}
use Rattle.raptor_rounds.proofs.LaneLemmas.{all_at}
use Rattle.raptor_rounds.proofs.SettleLemmas.{settles_more_below}
use Rattle.raptor_rounds.proofs.board.board_lanes.Goals as goal

pub board_lane-requires-clause-lane : goal.board_lane-requires-clause-lane
board_lane-requires-clause-lane c =
    let lanes = c.args.lanes.now in
    let lane = c.index-lanes-number.result in
    all_at IsTimelyLane lanes c.loop-number.number lane c.requires.lanes (slice_get_read lanes (length lanes) c.loop-number.number lane refl (omega arith) c.index-lanes-number.is)

pub loop-number-preserved : goal.loop-number-preserved
loop-number-preserved c =
    let lanes = c.args.lanes.now in
    let lane = c.index-lanes-number.result in
    let number = c.loop-number.number in
    let b = c.args.ready.now in
    let place = c.args.place.now in
    settles_more_below c.args.request.now b.departure (CatchesIn lanes b place.position) (IsRiddenInBlock lanes b place.block) number _ _ _ c.loop-number.invariant
    (settles_lane c.args.request.now lanes b place number lane _ _ (slice_get_read lanes (length lanes) number lane refl (omega arith) c.index-lanes-number.is) c.in_ok-board_lane.ensures)

pub board_lane-requires-clause-bounds : goal.board_lane-requires-clause-bounds
board_lane-requires-clause-bounds c =
    let lanes = c.args.lanes.now in
    let lane = c.index-lanes-number.result in
    rw c.loop-number.invariant.aim_is
    (all_at (IsLaneBound c.args.request.now (bounds_of c.args.state.now) c.args.place.now.block) lanes c.loop-number.number lane c.requires.bounds (slice_get_read lanes (length lanes) c.loop-number.number lane refl (omega arith) c.index-lanes-number.is))
