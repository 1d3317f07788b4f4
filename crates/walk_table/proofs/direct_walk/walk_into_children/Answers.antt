use Rattle.std.proofs.Common.{arith}
use Rattle.walk_table.specs.Direct.{IsWalkIntoChild}
use Rattle.walk_table.proofs.DirectLemmas.{least_next, least_over}
use Rattle.walk_table.proofs.direct_walk.walk_into_children.Goals as goal

pub loop-stop-preserved : goal.loop-stop-preserved
loop-stop-preserved c = least_next (IsWalkIntoChild c.args.profile.now c.args.p.now c.args.station) c.args.stops.now c.loop-stop.stop-index c.stop-item.result c.loop-stop.least c.walk_into_child.result c.lesser-least.result (omega arith) c.stop-item.is c.loop-stop.invariant c.walk_into_child.ensures c.lesser-least.ensures

pub returns : goal.returns
returns c = least_over (IsWalkIntoChild c.args.profile.now c.args.p.now c.args.station) c.args.stops.now c.loop-stop.stop-index c.loop-stop.least (omega arith) c.loop-stop.invariant
