use Rattle.std.proofs.Common.{◌≡◌, ◌++◌, ℕ, Some, map, take}
use Rattle.feed_load.specs.Runs.{run_from}
use Rattle.feed_load.proofs.runs.TripOnDay.add_runs.Given as goal

abbrev pub invariant-loop-start : goal.invariant-loop-start
invariant-loop-start l = l.runs ≡ l.fn.runs ++ map (run_from l.self.day.now l.self.number l.self.calls.now) (map (λ (start : ℕ). Some start) (take l.start-index l.starts))
