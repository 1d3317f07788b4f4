use Rattle.std.proofs.Common.{arith}
use Rattle.walk_table.proofs.WalkLemmas.{least_more_at, least_all}
use Rattle.walk_table.proofs.walks.least_walk.Goals as goal

pub loop-p-preserved : goal.loop-p-preserved
loop-p-preserved c = least_more_at c.args.profile.now c.args.points.now c.loop-p.p-index _ c.args.q.now c.loop-p.least c.walk_between.result c.lesser-least.result (omega arith) c.loop-p.invariant c.walk_between.ensures c.lesser-least.ensures

pub returns : goal.returns
returns c = least_all c.args.profile.now c.args.points.now c.loop-p.p-index c.args.q.now c.loop-p.least (omega arith) c.loop-p.invariant
