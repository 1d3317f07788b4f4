use Rattle.std.proofs.Common.{List, ◌∙◌, subst, arith}
use Rattle.otp_model.specs.declared.timetable.Call.{Call}
use Rattle.trip_patterns.specs.Rows.{IsRowOf}
use Rattle.trip_patterns.proofs.RowLemmas.{all_written, written}
use Rattle.trip_patterns.proofs.row.Row.of.Goals as goal

pub loop-call-preserved : goal.loop-call-preserved
loop-call-preserved g c =
    let calls = c.as_slice-call-items.result.now in
    let before = c.loop-call.invariant in
    record {
      name = before.name;
      seqs = written (λ (call : Call). call.seq) calls _ _ _ (omega arith) before.seqs c.in_ok-push.ensures.ok;
      arrivals = written (λ (call : Call). call.arrival) calls _ _ _ (omega arith) before.arrivals c.in_ok-push_time.ensures;
      departures = written (λ (call : Call). call.departure) calls _ _ _ (omega arith) before.departures c.in_ok-push_time-2.ensures;
      steps = omega arith;
    }

pub returns-clause-row : goal.returns-clause-row
returns-clause-row g c =
    let calls = c.as_slice-call-items.result.now in
    let whole = c.loop-call.invariant in
    let row = c.loop-call.row in
    subst (λ (calls : List Call). IsRowOf (record c.args.run.now { calls = calls }) row) c.as_slice-call-items.ensures (record {
      name = whole.name ∙ c.in_ok-copy.ensures;
      seqs = all_written (λ (call : Call). call.seq) calls _ _ (omega arith) whole.seqs;
      arrivals = all_written (λ (call : Call). call.arrival) calls _ _ (omega arith) whole.arrivals;
      departures = all_written (λ (call : Call). call.departure) calls _ _ (omega arith) whole.departures;
    })
