use Rattle.std.proofs.Common.{ℕ, ◌<◌, ◌<ℤ◌}
use Rattle.lane_kernels.specs.Columns.{entry}
use Rattle.lane_kernels.proofs.plain.first_at_least.Given as goal

abbrev pub invariant-loop-place : goal.invariant-loop-place
invariant-loop-place l = (k : ℕ) → k < l.place → entry l.column k <ℤ l.t
