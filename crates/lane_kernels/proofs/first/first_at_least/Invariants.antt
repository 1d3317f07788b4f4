use Rattle.std.proofs.Common.{◌-◌, ◌≤◌, length, ◌-ℤ◌, pos}
use Rattle.lane_kernels.specs.Lanes.{NoneWithin, is_above}
use Rattle.lane_kernels.proofs.first.first_at_least.Given as goal

abbrev pub invariant-loop-at : goal.invariant-loop-at
invariant-loop-at l = (l.at ≤ length l.column) × NoneWithin (is_above l.column (l.t -ℤ pos 1)) 0 l.at

abbrev pub decreases-loop-at : goal.decreases-loop-at
decreases-loop-at l = length l.column - l.at
