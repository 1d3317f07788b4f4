use Rattle.std.proofs.Common.{◌≡◌, length}
use Rattle.end_bounds.specs.Points.{AreEdgePoints}
use Rattle.end_bounds.proofs.points.pull_all.Given as goal

abbrev pub invariant-loop-stop : goal.invariant-loop-stop
invariant-loop-stop l = record { count : length l.next.items ≡ l.stop; edges : AreEdgePoints l.from l.rates.walk l.rates.board l.stop l.ready l.next.items }
