use Rattle.std.proofs.Common.{arith}
use Rattle.walk_table.specs.Reaches.{IsChildPoint}
use Rattle.otp_base.proofs.AddsLemmas.{adds_more_some, adds_option, adds_some_all, Contains-adds}
use Rattle.walk_table.proofs.reach.child_points.Goals as goal

pub loop-stop-preserved : goal.loop-stop-preserved
loop-stop-preserved c =
    adds_more_some (IsChildPoint c.args.station) c.args.stops.now c.loop-stop.stop-index c.stop-item.result _ _ _ (omega arith) c.stop-item.is c.loop-stop.invariant
    (adds_option _ _ _ _ c.in_ok-push_some.ensures c.child_point.ensures)

pub returns : goal.returns
returns c = Contains-adds _ _ (adds_some_all (IsChildPoint c.args.station) c.args.stops.now c.loop-stop.stop-index _ _ (omega arith) c.loop-stop.invariant)
