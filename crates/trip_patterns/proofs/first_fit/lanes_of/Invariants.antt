use Rattle.std.proofs.Common.{◌≡◌, ◌+◌, take, length}
use Rattle.std.specs.List.{sum_by}
use Rattle.otp_model.specs.declared.timetable.Run.{Run}
use Rattle.trip_patterns.proofs.FirstFitLemmas.{AreLanesSoFar}
use Rattle.trip_patterns.specs.Putting.{ArePutInto}
use Rattle.trip_patterns.proofs.first_fit.lanes_of.Given as goal

abbrev pub invariant-loop-run : goal.invariant-loop-run
invariant-loop-run g l = record {
  so_far : AreLanesSoFar l.runs (take l.run-index l.runs) l.lanes.items;
  put : ArePutInto (take l.run-index l.runs) l.lanes.items;
  steps : l.steps ≡ l.initial.steps + sum_by (λ (run : Run). length run.calls) (take l.run-index l.runs);
}
