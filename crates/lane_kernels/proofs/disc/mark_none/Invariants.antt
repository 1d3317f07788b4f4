use Rattle.std.proofs.Common.{ℕ, ◌≡◌, ◌+◌, ◌<◌, ◌≤◌, length, get_or, false}
use Rattle.lane_kernels.proofs.disc.mark_none.Given as goal

abbrev pub invariant-loop-lane : goal.invariant-loop-lane
invariant-loop-lane l = (length l.out ≡ length l.initial.out) × ((k : ℕ) → l.at ≤ k → k < l.at + l.lane → get_or l.out k false ≡ false) × ((k : ℕ) → k < l.at → get_or l.out k false ≡ get_or l.initial.out k false)
