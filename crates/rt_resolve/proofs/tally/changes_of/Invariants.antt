use Rattle.std.proofs.Common.{◌≡◌, map}
use Rattle.rt_resolve.specs.Tallies.{change_kept}
use Rattle.rt_resolve.proofs.tally.changes_of.Given as goal

abbrev pub invariant-loop-key : goal.invariant-loop-key
invariant-loop-key l = l.changes.items ≡ map change_kept l.yielded
