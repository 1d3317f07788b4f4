use Rattle.std.proofs.lemmas.Result.{IfOk-weaker}
use Rattle.walk_table.proofs.TestLemmas.{refuted}
use Rattle.walk_table.proofs.ReachLemmas.{points_own, points_children}
use Rattle.walk_table.proofs.reach.stop_points.Goals as goal

pub returns-then-is_station : goal.returns-then-is_station
returns-then-is_station c = IfOk-weaker c.child_points.result _ _ (λ points e. points_children c.args.stops.now c.args.named c.args.place.now points.items c.requires (c.is_station.ensures.0 c.if-is_station.true) e) c.child_points.ensures

pub returns : goal.returns
returns c = IfOk-weaker c.one_point.result _ _ (λ points e. points_own c.args.stops.now c.args.named c.args.place.now points.items c.requires (refuted c.is_station.result _ c.is_station.ensures c.if-is_station.false) (rw c.point.ensures at e)) c.one_point.ensures
