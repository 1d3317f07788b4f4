use Rattle.std.proofs.Common.{◌-◌, ◌≡◌, ◌≤◌, ◌<◌, ◌≤ℤ◌, length, slice_get, Some}
use Rattle.final_fronts.specs.declared.step.Step.{Step}
use Rattle.final_fronts.proofs.search.arrived_by.Given as goal

abbrev pub invariant-loop-low : goal.invariant-loop-low
invariant-loop-low l = record { order : l.low ≤ l.high; within : l.high ≤ length l.steps; last : (step : Step) → 0 < l.low → slice_get l.steps (l.low - 1) ≡ Some step → step.arrival ≤ℤ l.time }

abbrev pub decreases-loop-low : goal.decreases-loop-low
decreases-loop-low l = l.high - l.low
