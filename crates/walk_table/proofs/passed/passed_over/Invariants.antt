use Rattle.std.proofs.Common.{take, ◌≤◌}
use Rattle.walk_table.specs.Passed.{Counts, IsPassedOver}
use Rattle.walk_table.proofs.passed.passed_over.Given as goal

abbrev pub invariant-loop-row : goal.invariant-loop-row
invariant-loop-row l = record {
  counts : Counts (IsPassedOver l.stops) (take l.row-index l.transfers) l.passed;
  few : l.passed ≤ l.row-index;
}
