use Rattle.std.proofs.Common.{◌≡◌}
use Rattle.std.specs.List.{filter, range_with_len}
use Rattle.service_days.specs.Active.{passes, runs_by}
use Rattle.service_days.proofs.services.numbers.Given as goal

abbrev pub invariant-loop-number : goal.invariant-loop-number
invariant-loop-number l = l.numbers ≡ filter (passes (runs_by l.added l.removed l.scheduled) l.services) (range_with_len 0 l.number)
