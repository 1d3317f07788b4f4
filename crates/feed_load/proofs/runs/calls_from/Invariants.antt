use Rattle.std.proofs.Common.{◌≡◌, map, take}
use Rattle.feed_load.specs.Runs.{call_from}
use Rattle.feed_load.proofs.runs.calls_from.Given as goal

abbrev pub invariant-loop-call : goal.invariant-loop-call
invariant-loop-call l = l.list.items ≡ map (call_from l.instant) (take l.call-index l.calls)
