use Rattle.walk_table.proofs.TestLemmas.{refuted}
use Rattle.walk_table.proofs.DirectLemmas.{direct_children, direct_own}
use Rattle.walk_table.proofs.direct_walk.direct_from.Goals as goal

pub returns-then-is_station : goal.returns-then-is_station
returns-then-is_station c = direct_children c.args.edges.now c.args.named c.args.place.now c.args.to.now c.direct_from_children.result c.requires.from (c.is_station.ensures.0 c.if-is_station.true) c.direct_from_children.ensures

pub returns : goal.returns
returns c = direct_own c.args.edges.now c.args.named c.args.place.now c.point.result c.args.to.now c.walk_into.result c.requires.from (refuted c.is_station.result _ c.is_station.ensures c.if-is_station.false) c.point.ensures c.walk_into.ensures
