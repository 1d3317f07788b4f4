use Rattle.std.proofs.Common.{◌≡◌, ◌<◌, ◌∙◌, ap, sym, length, arith, true, false}
use Rattle.std.proofs.lemmas.Option.{MatchOption-at_some}
use Rattle.otp_model.specs.Patterns.{is_changed}
use Rattle.otp_model.specs.declared.timetable.Run.{Run}
use Rattle.snapshot_store.specs.Changing.{has_change}
use Rattle.snapshot_store.proofs.RowLemmas.{found}
use Rattle.snapshot_store.proofs.TouchLemmas.{none_more, some_at}
use Rattle.snapshot_store.proofs.touching.is_changed_in.Goals as goal

pub returns-then-has : goal.returns-then-has
returns-then-has c =
    let runs = c.args.lane.now.runs in
    let less : c.loop-row.row < length runs = omega (arith, c.rows-row-end.ensures) in
    let run = found runs c.loop-row.row less in
    let named : c.name.result.now ≡ run.0.name = MatchOption-at_some _ (λ (r : Run). c.name.result.now ≡ r.name) run.0 run.1 c.name.ensures in
    let is : is_changed c.args.changes.now run.0 ≡ true = sym (c.has.ensures ∙ ap (has_change c.args.changes.now) named) ∙ c.if-has.true in
    sym (some_at (is_changed c.args.changes.now) runs c.loop-row.row run.0 run.1 is)

pub loop-row-preserved : goal.loop-row-preserved
loop-row-preserved c =
    let runs = c.args.lane.now.runs in
    let less : c.loop-row.row < length runs = omega (arith, c.rows-row-end.ensures) in
    let run = found runs c.loop-row.row less in
    let named : c.name.result.now ≡ run.0.name = MatchOption-at_some _ (λ (r : Run). c.name.result.now ≡ r.name) run.0 run.1 c.name.ensures in
    let other : is_changed c.args.changes.now run.0 ≡ false = sym (c.has.ensures ∙ ap (has_change c.args.changes.now) named) ∙ c.if-has.false in
    none_more (is_changed c.args.changes.now) runs c.loop-row.row run.0 run.1 c.loop-row.invariant other
