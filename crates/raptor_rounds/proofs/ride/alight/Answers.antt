use Rattle.std.proofs.Common.{subst, sym}
use Rattle.raptor_rounds.specs.Rides.{AlightsAt, IsNodeInRange, IsRiddenOn}
use Rattle.raptor_rounds.proofs.BoardLemmas.{alights_barred, settles_alight}
use Rattle.raptor_rounds.proofs.LaneLemmas.{node_in_range}
use Rattle.raptor_rounds.proofs.SettleLemmas.{settles_none}
use Rattle.raptor_rounds.proofs.ride.alight.Goals as goal

pub offer-requires-clause-node : goal.offer-requires-clause-node
offer-requires-clause-node c =
    subst (IsNodeInRange c.args.request.now) (sym c.node_at-node.ensures)
    (node_in_range c.args.lane.now c.args.request.now c.args.ready.now c.args.at.now c.args.row c.args.to c.call-call.result c.requires.lane c.requires.ready c.requires.boarded c.requires.after c.call-call.ensures)

pub returns-then-not-call : goal.returns-then-not-call
returns-then-not-call c =
    let lane = c.args.lane.now in
    let b = c.args.ready.now in
    let at = c.args.at.now in
    settles_none c.args.request.now b.departure (AlightsAt lane b at.position c.args.row c.args.to) (IsRiddenOn lane b at.block at.lane) c.args.state.now c.requires.open
    (alights_barred lane b at.position c.args.row c.args.to c.call-call.result c.call-call.ensures c.if-not-call.true)

pub returns : goal.returns
returns c =
    settles_alight c.args.lane.now c.args.request.now c.args.ready.now c.args.at.now c.args.row c.args.to c.call-call.result c.node_at-node.result _ _ c.requires.lane c.requires.ready c.requires.boarded c.requires.after
    c.call-call.ensures c.if-not-call.false c.node_at-node.ensures c.in_ok-offer.ensures
