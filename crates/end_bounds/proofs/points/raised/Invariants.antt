use Rattle.std.proofs.Common.{◌≡◌, ◌<◌, ℕ, max, length}
use Rattle.end_bounds.specs.Scans.{number_at}
use Rattle.end_bounds.proofs.points.raised.Given as goal

abbrev pub invariant-loop-n : goal.invariant-loop-n
invariant-loop-n l = record {
  size : length l.raised.items ≡ l.n;
  each : (k : ℕ) → k < l.n → number_at l.raised.items k ≡ max (number_at l.numbers k) l.floor;
}
