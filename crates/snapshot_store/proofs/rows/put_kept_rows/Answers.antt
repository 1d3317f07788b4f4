use Rattle.std.proofs.Common.{◌≡◌, ◌<◌, ◌∙◌, ap, sym, length, arith, true, false}
use Rattle.std.proofs.lemmas.Option.{MatchOption-at_some}
use Rattle.otp_model.specs.Patterns.{is_changed}
use Rattle.otp_model.specs.declared.timetable.Run.{Run}
use Rattle.snapshot_store.specs.Changing.{has_change}
use Rattle.snapshot_store.proofs.RowLemmas.{found, kept_none, kept_one}
use Rattle.snapshot_store.proofs.rows.put_kept_rows.Goals as goal

pub loop-row-preserved-then-has : goal.loop-row-preserved-then-has
loop-row-preserved-then-has c =
    let runs = c.args.lane.now.runs in
    let row = c.loop-row.row in
    let less : row < length runs = omega (arith, c.rows-row-end.ensures) in
    let run = found runs row less in
    let named : c.name.result.now ≡ run.0.name = MatchOption-at_some _ (λ (r : Run). c.name.result.now ≡ r.name) run.0 run.1 c.name.ensures in
    let is : is_changed c.args.changes.now run.0 ≡ true = sym (c.has.ensures ∙ ap (has_change c.args.changes.now) named) ∙ c.if-has.true in
    kept_none c.args.changes.now runs row run.0 c.args.runs.now.items c.loop-row.runs.items run.1 is c.loop-row.invariant

pub loop-row-preserved : goal.loop-row-preserved
loop-row-preserved c =
    let runs = c.args.lane.now.runs in
    let row = c.loop-row.row in
    let run = c.in_ok-run_at.field-0 in
    let at = c.in_ok-run_at.ensures in
    let named : c.name.result.now ≡ run.name = MatchOption-at_some _ (λ (r : Run). c.name.result.now ≡ r.name) run at c.name.ensures in
    let other : is_changed c.args.changes.now run ≡ false = sym (c.has.ensures ∙ ap (has_change c.args.changes.now) named) ∙ c.if-has.false in
    kept_one c.args.changes.now runs row run c.args.runs.now.items c.loop-row.runs.items c.push.new.self.items at other c.loop-row.invariant c.in_ok-push.ensures.items
