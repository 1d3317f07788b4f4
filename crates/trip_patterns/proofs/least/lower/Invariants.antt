use Rattle.std.proofs.Common.{◌≡◌, ℕ, ◌<◌, ◌≤◌, get_or, min}
use Rattle.trip_patterns.proofs.least.lower.Given as goal

abbrev pub invariant-loop-position : goal.invariant-loop-position
invariant-loop-position l = record {
  lowered : (k : ℕ) → k < l.position → get_or l.times k 0 ≡ min (get_or l.initial.times k 0) (get_or l.others k 0);
  kept : (k : ℕ) → l.position ≤ k → get_or l.times k 0 ≡ get_or l.initial.times k 0;
}
