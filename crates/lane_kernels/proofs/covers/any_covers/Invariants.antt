use Rattle.std.proofs.Common.{◌-◌, ◌≤◌, length}
use Rattle.lane_kernels.specs.Lanes.{NoneWithin, covers}
use Rattle.lane_kernels.proofs.covers.any_covers.Given as goal

abbrev pub invariant-loop-at : goal.invariant-loop-at
invariant-loop-at l = (l.at ≤ length l.times) × NoneWithin (covers l.times l.pens l.t l.p) 0 l.at

abbrev pub decreases-loop-at : goal.decreases-loop-at
decreases-loop-at l = length l.times - l.at
