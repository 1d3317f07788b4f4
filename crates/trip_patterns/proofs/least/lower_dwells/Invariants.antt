use Rattle.std.proofs.Common.{◌≡◌, ℕ, ◌<◌, ◌≤◌, get_or, min}
use Rattle.trip_patterns.specs.Hops.{dwell_in}
use Rattle.trip_patterns.proofs.least.lower_dwells.Given as goal

abbrev pub invariant-loop-position : goal.invariant-loop-position
invariant-loop-position l = record {
  lowered : (k : ℕ) → k < l.position → get_or l.dwells k 0 ≡ min (get_or l.initial.dwells k 0) (dwell_in l.calls k);
  kept : (k : ℕ) → l.position ≤ k → get_or l.dwells k 0 ≡ get_or l.initial.dwells k 0;
}
