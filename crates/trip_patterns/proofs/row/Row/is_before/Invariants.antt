use Rattle.std.proofs.Common.{ℕ, ◌<◌}
use Rattle.trip_patterns.proofs.RowLemmas.{IsBeforeAt}
use Rattle.trip_patterns.proofs.row.Row.is_before.Given as goal

abbrev pub invariant-loop-position : goal.invariant-loop-position
invariant-loop-position l = (k : ℕ) → k < l.position → IsBeforeAt l.arrivals l.departures l.calls k
