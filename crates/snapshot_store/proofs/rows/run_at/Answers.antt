use Rattle.std.proofs.Common.{◌≡◌, ◌∙◌, arith}
use Rattle.std.proofs.lemmas.Option.{MatchOption-at_some}
use Rattle.otp_model.specs.declared.timetable.Run.{Run}
use Rattle.snapshot_store.proofs.RowLemmas.{calls_more, run_is}
use Rattle.snapshot_store.proofs.rows.run_at.Goals as goal

pub loop-position-preserved : goal.loop-position-preserved
loop-position-preserved c = λ run at.
    calls_more c.args.lane.now.runs c.args.row c.loop-position.position run c.call.result c.loop-position.calls.items c.push.new.self.items at c.call.ensures
    (c.loop-position.invariant run at) c.in_ok-push.ensures.items

pub returns : goal.returns
returns c =
    run_is c.args.lane.now c.args.row c.loop-position.position (record { name = c.in_ok-name.name; calls = c.from_vec.result }) c.requires.lane c.requires.row
    (omega (arith, c.positions-position-end.ensures))
    (λ other at. c.in_ok-name.ensures ∙ MatchOption-at_some _ (λ (run : Run). c.name.result.now ≡ run.name) other at c.name.ensures)
    (λ other at. c.from_vec.ensures ∙ c.loop-position.invariant other at)
