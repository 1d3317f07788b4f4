use Rattle.std.proofs.Common.{◌<◌, ◌≡◌, ℕ, Some, slice_get}
use Rattle.final_fronts.specs.Fronts.{IsBeatenOn}
use Rattle.final_fronts.proofs.lost.is_lost.Given as goal

abbrev pub invariant-loop-more : goal.invariant-loop-more
invariant-loop-more l = (more least : ℕ) → more < l.more → slice_get l.seconds more ≡ Some least → IsBeatenOn l.fronts l.at more least l.points
