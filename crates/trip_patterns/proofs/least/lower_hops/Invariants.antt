use Rattle.std.proofs.Common.{◌≡◌, ℕ, ◌<◌, ◌≤◌, get_or, min}
use Rattle.trip_patterns.specs.Hops.{hop_in}
use Rattle.trip_patterns.proofs.least.lower_hops.Given as goal

abbrev pub invariant-loop-position : goal.invariant-loop-position
invariant-loop-position l = record {
  lowered : (k : ℕ) → k < l.position → get_or l.hops k 0 ≡ min (get_or l.initial.hops k 0) (hop_in l.calls k);
  kept : (k : ℕ) → l.position ≤ k → get_or l.hops k 0 ≡ get_or l.initial.hops k 0;
}
