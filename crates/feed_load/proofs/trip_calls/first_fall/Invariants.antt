use Rattle.std.proofs.Common.{ℕ, ◌<◌}
use Rattle.feed_load.specs.Calls.{FallsAt}
use Rattle.feed_load.proofs.trip_calls.first_fall.Given as goal

abbrev pub invariant-loop-place : goal.invariant-loop-place
invariant-loop-place l = (earlier : ℕ) → earlier < l.place → FallsAt l.calls earlier → ⊥
