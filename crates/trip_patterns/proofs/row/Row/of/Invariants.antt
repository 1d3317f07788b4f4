use Rattle.std.proofs.Common.{◌≡◌, ◌+◌, take, map}
use Rattle.otp_model.specs.declared.timetable.Call.{Call}
use Rattle.trip_patterns.proofs.row.Row.of.Given as goal

abbrev pub invariant-loop-call : goal.invariant-loop-call
invariant-loop-call g l = record {
  name : l.row.name ≡ l.initial.row.name;
  seqs : l.row.seqs ≡ map (λ (call : Call). call.seq) (take l.call-index l.call-items);
  arrivals : l.row.arrivals ≡ map (λ (call : Call). call.arrival) (take l.call-index l.call-items);
  departures : l.row.departures ≡ map (λ (call : Call). call.departure) (take l.call-index l.call-items);
  steps : l.steps ≡ l.initial.steps + l.call-index;
}
