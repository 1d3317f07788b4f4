use Rattle.std.proofs.Common.{ℕ, ◌<◌, ◌≡◌, Some}
use Rattle.std.specs.List.{slice_get}
use Rattle.otp_model.specs.Patterns.{Spot}
use Rattle.end_bounds.specs.Scans.{number_at}
use Rattle.end_bounds.proofs.scan.is_unchanged.Given as goal

abbrev pub invariant-loop-position : goal.invariant-loop-position
invariant-loop-position l = (k : ℕ) (spot : Spot) → k < l.position → slice_get l.shape.pattern k ≡ Some spot → number_at l.now spot.stop ≡ number_at l.before spot.stop
