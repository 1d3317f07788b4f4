use Rattle.std.proofs.Common.{◌≡◌, ◌+◌, drop}
use Rattle.std.specs.List.{prefix_len}
use Rattle.snapshot_store.specs.Order.{is_before}
use Rattle.snapshot_store.proofs.order.count_before.Given as goal

abbrev pub invariant-loop-count : goal.invariant-loop-count
invariant-loop-count l = prefix_len (is_before l.lanes) l.runs ≡ l.count + prefix_len (is_before l.lanes) (drop l.count l.runs)
