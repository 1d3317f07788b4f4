use Rattle.std.proofs.Common.{◌<◌, ◌∙◌, sym, length, arith}
use Rattle.otp_model.specs.Patterns.{is_changed}
use Rattle.snapshot_store.proofs.TouchLemmas.{none_in, some_in}
use Rattle.snapshot_store.proofs.touching.has_changed_row.Goals as goal

pub returns-then-is_changed_in : goal.returns-then-is_changed_in
returns-then-is_changed_in c =
    let lanes = c.args.lanes.now in
    let less : c.loop-lane.lane-index < length lanes = omega arith in
    sym (some_in (is_changed c.args.changes.now) lanes c.loop-lane.lane-index c.lane-item.result less c.lane-item.is (sym c.is_changed_in.ensures ∙ c.if-is_changed_in.true))

pub loop-lane-preserved : goal.loop-lane-preserved
loop-lane-preserved c =
    let lanes = c.args.lanes.now in
    let less : c.loop-lane.lane-index < length lanes = omega arith in
    none_in (is_changed c.args.changes.now) lanes c.loop-lane.lane-index c.lane-item.result less c.lane-item.is c.loop-lane.invariant (sym c.is_changed_in.ensures ∙ c.if-is_changed_in.false)
