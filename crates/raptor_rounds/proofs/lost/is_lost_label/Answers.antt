use Rattle.end_bounds.specs.Found.{bounds_of}
use Rattle.raptor_rounds.specs.Rides.{standing_of}
use Rattle.raptor_rounds.proofs.FrontLemmas.{lost_by_rows, node_stands}
use Rattle.raptor_rounds.proofs.lost.is_lost_label.Goals as goal

pub is_lost-requires-clause-at : goal.is_lost-requires-clause-at
is_lost-requires-clause-at c = rw c.standing_of.ensures (node_stands c.args.request.now c.args.node.now c.requires.request c.requires.node)

pub returns : goal.returns
returns c = λ lost.
    let s = c.args.state.now in
    let n = c.args.node.now in
    let b = bounds_of s.aim.bounds in
    lost_by_rows c.args.request.now s (standing_of n) (b.alight n.stop) (b.alight_points n.stop) c.alight-seconds.result.now c.alight_points-points.result.now c.requires.open c.alight-seconds.ensures c.alight_points-points.ensures
    (rw (c.deref.ensures.value, c.standing_of.ensures) at (c.is_lost.ensures lost))
