use Rattle.std.proofs.Common.{arith}
use Rattle.walk_table.proofs.ReachLemmas.{reach_some, reach_none}
use Rattle.walk_table.proofs.reach.reach_at.Goals as goal

pub returns-in-None : goal.returns-in-None
returns-in-None c = reach_none c.args.edges.now.profile c.args.points.now c.args.number c.args.stop.now c.point-at.result c.point-at.ensures c.in-None.ensures

pub returns-in-Some : goal.returns-in-Some
returns-in-Some c = reach_some c.args.edges.now.profile c.args.points.now c.args.number c.args.stop.now c.point-at.result c.in-Some.seconds c.point-at.ensures (omega arith) c.in-Some.ensures
