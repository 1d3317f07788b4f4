use Rattle.std.proofs.Common.{refl}
use Rattle.walk_table.proofs.EdgeLemmas.{edge_far, edge_some}
use Rattle.walk_table.proofs.all_edges.edge_to.Goals as goal

pub returns : goal.returns
returns c =
    edge_some c.args.ground.now.stops.now c.args.rows.now c.args.ground.now.profile.now c.args.from.now.number c.args.from.now.stop.now c.args.to.now.number c.args.to.now.stop.now c.point.result c.point-2.result c.in_ok-square.square c.seconds_over.result c.greatest_minimum.result
    c.point.ensures c.point-2.ensures c.in_ok-square.ensures.0 c.in_ok-square.ensures.1
    (λ bars. let e = c.if-is_barred.ensures.1 bars in cc) (c.if-not-is_given.ensures.0 refl) c.seconds_over.ensures c.greatest_minimum.ensures

pub returns-in_err-square : goal.returns-in_err-square
returns-in_err-square c =
    rw c.from_residual.ensures
    (edge_far c.args.ground.now.stops.now c.args.rows.now c.args.ground.now.profile.now c.args.from.now.number c.args.from.now.stop.now c.args.to.now.number c.args.to.now.stop.now c.point.result c.point-2.result
    c.point.ensures c.point-2.ensures c.requires.from c.requires.to c.requires.walks.reach c.in_err-square.ensures)
