use Rattle.std.proofs.Common.{arith}
use Rattle.walk_table.specs.Rows.{IsLeaving}
use Rattle.otp_base.proofs.AddsLemmas.{adds_more_at, adds_option, adds_some_all, Contains-adds}
use Rattle.walk_table.proofs.rows.rows_from.Goals as goal

pub loop-row-preserved : goal.loop-row-preserved
loop-row-preserved c =
    adds_more_at (IsLeaving c.args.stops.now c.args.from.now.number c.args.from.now.stop.now) c.args.transfers.now c.loop-row.row-index _ _ _ _ (omega arith) c.loop-row.invariant
    (adds_option _ _ _ c.leaving.result c.in_ok-push_some.ensures c.leaving.ensures)

pub returns : goal.returns
returns c = Contains-adds _ _ (adds_some_all (IsLeaving c.args.stops.now c.args.from.now.number c.args.from.now.stop.now) c.args.transfers.now c.loop-row.row-index _ _ (omega arith) c.loop-row.invariant)
