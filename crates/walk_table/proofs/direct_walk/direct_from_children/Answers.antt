use Rattle.std.proofs.Common.{arith, List, subst}
use Rattle.otp_model.specs.declared.timetable.Stop.{Stop}
use Rattle.otp_base.specs.Adds.{FromSome}
use Rattle.walk_table.specs.Direct.{IsDirectFromChild, IsLeast}
use Rattle.walk_table.proofs.DirectLemmas.{least_next, least_over}
use Rattle.walk_table.proofs.direct_walk.direct_from_children.Goals as goal

pub loop-stop-preserved : goal.loop-stop-preserved
loop-stop-preserved c = least_next (IsDirectFromChild c.args.edges.now c.args.station c.args.to.now) c.as_slice-stops.result.now c.loop-stop.stop-index c.stop-item.result c.loop-stop.least c.direct_from_child.result c.lesser-least.result (omega arith) c.stop-item.is c.loop-stop.invariant c.direct_from_child.ensures c.lesser-least.ensures

pub returns : goal.returns
returns c =
    subst (λ (ss : List Stop). IsLeast (FromSome (IsDirectFromChild c.args.edges.now c.args.station c.args.to.now) ss) c.loop-stop.least) c.as_slice-stops.ensures
    (least_over (IsDirectFromChild c.args.edges.now c.args.station c.args.to.now) c.as_slice-stops.result.now c.loop-stop.stop-index c.loop-stop.least (omega arith) c.loop-stop.invariant)
