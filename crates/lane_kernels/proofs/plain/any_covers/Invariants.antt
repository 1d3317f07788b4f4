use Rattle.std.proofs.Common.{ℕ, ◌<◌, ◌≤ℤ◌}
use Rattle.lane_kernels.specs.Columns.{entry}
use Rattle.lane_kernels.proofs.plain.any_covers.Given as goal

abbrev pub invariant-loop-place : goal.invariant-loop-place
invariant-loop-place l = (k : ℕ) → k < l.place → ¬ ((entry l.times k ≤ℤ l.t) × (entry l.pens k ≤ℤ l.p))
