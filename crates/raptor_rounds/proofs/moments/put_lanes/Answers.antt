use Rattle.std.proofs.Common.{arith, length, refl}
use Rattle.std.proofs.lemmas.Option.{slice_get_read}
use Rattle.otp_base.proofs.AddsLemmas.{adds_more_some, adds_some_all}
use Rattle.raptor_rounds.specs.Moments.{IsMomentOn}
use Rattle.raptor_rounds.specs.Rides.{IsTimelyLane}
use Rattle.raptor_rounds.proofs.LaneLemmas.{all_at}
use Rattle.raptor_rounds.proofs.moments.put_lanes.Goals as goal

pub put_lane-requires-clause-lane : goal.put_lane-requires-clause-lane
put_lane-requires-clause-lane c =
    let lanes = c.args.lanes.now in
    all_at IsTimelyLane lanes c.loop-lane.lane-index c.lane-item.result c.requires.lanes (slice_get_read lanes (length lanes) c.loop-lane.lane-index c.lane-item.result refl (omega arith) c.lane-item.is)

pub loop-lane-preserved : goal.loop-lane-preserved
loop-lane-preserved c =
    adds_more_some (IsMomentOn c.args.request.now c.args.reach.now c.args.position) c.args.lanes.now c.loop-lane.lane-index c.lane-item.result _ _ _ (omega arith) c.lane-item.is c.loop-lane.invariant c.in_ok-put_lane.ensures

pub returns : goal.returns
returns c = adds_some_all (IsMomentOn c.args.request.now c.args.reach.now c.args.position) c.args.lanes.now c.loop-lane.lane-index _ _ (omega arith) c.loop-lane.invariant
