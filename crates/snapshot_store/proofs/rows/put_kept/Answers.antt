use Rattle.std.proofs.Common.{◌<◌, sym, subst, length, arith}
use Rattle.trip_patterns.specs.Lanes.{IsLane}
use Rattle.snapshot_store.proofs.RowLemmas.{kept_lane}
use Rattle.snapshot_store.proofs.rows.put_kept.Goals as goal

pub put_kept_rows-requires : goal.put_kept_rows-requires
put_kept_rows-requires c =
    let less : c.loop-lane.lane-index < length c.args.lanes.now = omega arith in
    subst IsLane (sym c.lane-item.is) (c.requires c.loop-lane.lane-index c.lane-item.result less)

pub loop-lane-preserved : goal.loop-lane-preserved
loop-lane-preserved c =
    let less : c.loop-lane.lane-index < length c.args.lanes.now = omega arith in
    kept_lane c.args.changes.now c.args.lanes.now c.loop-lane.lane-index c.lane-item.result c.args.runs.now.items c.loop-lane.runs.items c.put_kept_rows.new.runs.items
    less c.lane-item.is c.loop-lane.invariant c.in_ok-put_kept_rows.ensures
