use Rattle.std.proofs.Common.{ℕ, ◌≡◌, ◌<◌, length, get_or, false}
use Rattle.lane_kernels.specs.Columns.{AreMarked}
use Rattle.lane_kernels.proofs.plain.mark.Given as goal

abbrev pub invariant-loop-place : goal.invariant-loop-place
invariant-loop-place l = (length l.out ≡ length l.initial.out) × AreMarked l.xs l.ys l.x l.y l.reach l.from l.place l.out × ((k : ℕ) → k < l.from → get_or l.out k false ≡ get_or l.initial.out k false)
