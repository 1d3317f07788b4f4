use Rattle.walk_table.proofs.TestLemmas.{refuted}
use Rattle.walk_table.proofs.DirectLemmas.{into_children, into_own}
use Rattle.walk_table.proofs.direct_walk.walk_into_stop.Goals as goal

pub returns-then-is_station : goal.returns-then-is_station
returns-then-is_station c = into_children c.args.edges.now c.args.p.now c.args.named c.args.place.now c.walk_into_children.result c.requires.to (c.is_station.ensures.0 c.if-is_station.true) (rw c.as_slice.ensures at c.walk_into_children.ensures)

pub returns : goal.returns
returns c = into_own c.args.edges.now c.args.p.now c.args.named c.args.place.now c.point.result c.walk_between.result c.requires.to (refuted c.is_station.result _ c.is_station.ensures c.if-is_station.false) c.point.ensures c.walk_between.ensures
