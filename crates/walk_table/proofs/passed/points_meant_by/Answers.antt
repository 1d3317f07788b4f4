use Rattle.std.proofs.lemmas.Result.{IfOk-weaker}
use Rattle.walk_table.proofs.PassedLemmas.{meant_children}
use Rattle.walk_table.proofs.passed.points_meant_by.Goals as goal

pub returns-in-1 : goal.returns-in-1
returns-in-1 c = IfOk-weaker c.child_points.result _ _ (λ points e. meant_children c.args.stops.now c.args.named c.args.place.now points.items c.requires c.in-1.is e) c.child_points.ensures
