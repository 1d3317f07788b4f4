use Rattle.std.proofs.Common.{arith}
use Rattle.raptor_rounds.specs.Rides.{AlightsAt, IsRiddenOn}
use Rattle.raptor_rounds.proofs.LaneLemmas.{within_pattern}
use Rattle.raptor_rounds.proofs.SettleLemmas.{settles_more_below}
use Rattle.raptor_rounds.proofs.ride.ride.Goals as goal

pub overflow_step-to : goal.overflow_step-to
overflow_step-to c =
    let b = c.requires.boarded in
    omega (arith, within_pattern c.args.lane.now c.requires.lane.is_lane c.args.row b.run b.run_is c.args.at.now.position b.board b.board_is)

pub loop-to-preserved : goal.loop-to-preserved
loop-to-preserved c =
    let b = c.args.ready.now in
    let at = c.args.at.now in
    settles_more_below c.args.request.now b.departure (AlightsAt c.args.lane.now b at.position c.args.row) (IsRiddenOn c.args.lane.now b at.block at.lane) c.loop-to.to _ _ _ c.loop-to.invariant c.in_ok-alight.ensures
