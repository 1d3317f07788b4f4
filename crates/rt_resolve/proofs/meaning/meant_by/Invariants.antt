use Rattle.std.proofs.Common.{◌≡◌, ◌≤◌, ◌++◌, length, drop, map}
use Rattle.std.specs.List.{All}
use Rattle.otp_model.specs.Moves.{meant_from}
use Rattle.rt_resolve.specs.Meaning.{MeansWithEvents, meant_of}
use Rattle.rt_resolve.proofs.meaning.meant_by.Given as goal

abbrev pub invariant-loop-update : goal.invariant-loop-update
invariant-loop-update l = record {
  so_far : map meant_of l.meant.items ++ meant_from l.stops l.calls l.from (drop l.update-index l.updates) ≡ meant_from l.stops l.calls 0 l.updates;
  within : l.from ≤ length l.calls;
  events : All MeansWithEvents l.meant.items;
}
