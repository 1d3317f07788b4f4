use Rattle.std.proofs.Common.{◌≡◌, ◌+◌, drop}
use Rattle.std.specs.List.{prefix_len}
use Rattle.snapshot_store.specs.Order.{is_of_lanes}
use Rattle.snapshot_store.proofs.order.count_of.Given as goal

abbrev pub invariant-loop-count : goal.invariant-loop-count
invariant-loop-count l = prefix_len (is_of_lanes l.lanes) l.runs ≡ l.count + prefix_len (is_of_lanes l.lanes) (drop l.count l.runs)
