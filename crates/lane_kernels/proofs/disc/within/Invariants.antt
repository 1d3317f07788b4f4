use Rattle.std.proofs.Common.{◌≡◌, ◌-◌, ◌≤◌, length}
use Rattle.lane_kernels.specs.Columns.{AreMarked}
use Rattle.lane_kernels.proofs.disc.within.Given as goal

abbrev pub invariant-loop-at : goal.invariant-loop-at
invariant-loop-at l = (l.at ≤ length l.xs) × (length l.xs ≡ length l.out) × AreMarked l.xs l.ys l.x l.y l.reach 0 l.at l.out

abbrev pub decreases-loop-at : goal.decreases-loop-at
decreases-loop-at l = length l.xs - l.at
