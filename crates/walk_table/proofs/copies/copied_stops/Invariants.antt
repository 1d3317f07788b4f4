use Rattle.std.proofs.Common.{take, ◌≡◌}
use Rattle.walk_table.proofs.copies.copied_stops.Given as goal

abbrev pub invariant-loop-stop : goal.invariant-loop-stop
invariant-loop-stop l = l.list ≡ take l.stop-index l.stops
