use Rattle.std.proofs.Common.{◌<◌, length, arith}
use Rattle.trip_patterns.proofs.SpanLemmas.{span_more}
use Rattle.trip_patterns.proofs.span.span_of.Goals as goal

pub loop-lane-preserved : goal.loop-lane-preserved
loop-lane-preserved c =
    let less : c.loop-lane.lane-index < length c.args.lanes.now = omega arith in
    span_more c.args.lanes.now c.loop-lane.lane-index c.lane-item.result c.loop-lane.span c.span.result c.joined-span.result less c.lane-item.is c.loop-lane.invariant c.span.ensures
    c.joined-span.ensures.own c.joined-span.ensures.others
