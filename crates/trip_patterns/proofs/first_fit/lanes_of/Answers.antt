use Rattle.std.proofs.Common.{◌≡◌, ◌<◌, List, length, take, get_or, ap, subst, sym, arith}
use Rattle.std.proofs.lemmas.List.Sums.{sum_by_more}
use Rattle.std.proofs.lemmas.Result.{IfOk-weaker}
use Rattle.otp_model.specs.declared.timetable.Run.{Run}
use Rattle.trip_patterns.specs.Lanes.{LaneOf}
use Rattle.trip_patterns.proofs.FirstFitLemmas.{AreLanesSoFar, all_lanes, all_put, both_of, lanes_more, put_on}
use Rattle.trip_patterns.proofs.first_fit.lanes_of.Goals as goal

pub loop-run-preserved : goal.loop-run-preserved
loop-run-preserved g c =
    let runs = c.args.runs.now in
    let n = c.loop-run.run-index in
    let run = c.run-item.result in
    let less : n < length runs = omega arith in
    let long = sum_by_more (λ (run : Run). length run.calls) runs n run less in
    let here : length run.calls ≡ length (get_or runs n run).calls = ap (λ (r : Run). length r.calls) c.run-item.is in
    record {
      so_far = lanes_more runs n run c.loop-run.lanes.items c.put_run.new.lanes.items c.requires less c.run-item.is c.loop-run.invariant.so_far c.in_ok-put_run.ensures.put;
      put = put_on runs n run c.loop-run.lanes.items c.put_run.new.lanes.items less c.run-item.is c.loop-run.invariant.put c.in_ok-put_run.ensures.put;
      steps = omega (arith, long, here, c.loop-run.invariant.steps, c.in_ok-put_run.ensures.counted);
    }

pub returns-clause-lanes : goal.returns-clause-lanes
returns-clause-lanes g c =
    let runs = c.args.runs.now in
    both_of c.finished.result _ _ _
    (λ lanes same each.
    all_lanes runs c.loop-run.run-index lanes.items (omega arith)
    (subst (λ (ls : List LaneOf). AreLanesSoFar runs (take c.loop-run.run-index runs) ls) (sym same) c.loop-run.invariant.so_far) each)
    c.finished.ensures.same c.finished.ensures.each

pub returns-clause-put : goal.returns-clause-put
returns-clause-put g c =
    let runs = c.args.runs.now in
    IfOk-weaker c.finished.result _ _
    (λ lanes same. all_put runs c.loop-run.run-index c.loop-run.lanes.items lanes.items (omega arith) c.loop-run.invariant.put same) c.finished.ensures.same
