use Rattle.std.proofs.Common.{◌≡◌, ◌<◌, ◌≤◌, ℕ, Some}
use Rattle.std.specs.List.{slice_get}
use Rattle.otp_model.specs.Patterns.{Spot}
use Rattle.end_bounds.proofs.layout.stops_of.Given as goal

abbrev pub invariant-loop-position : goal.invariant-loop-position
invariant-loop-position l = record {
  most : l.count ≤ l.stops;
  below : (k : ℕ) (spot : Spot) → k < l.position → slice_get l.shape.pattern k ≡ Some spot → spot.stop < l.stops;
}
