use Rattle.std.proofs.Common.{◌≡◌, length}
use Rattle.end_bounds.specs.Levels.{AreEdgeBounds}
use Rattle.end_bounds.proofs.level.pull_all.Given as goal

abbrev pub invariant-loop-stop : goal.invariant-loop-stop
invariant-loop-stop l = record { count : length l.next.items ≡ l.stop; edges : AreEdgeBounds l.from l.slack l.stop l.ready l.next.items }
