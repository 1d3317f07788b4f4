use Rattle.std.proofs.Common.{◌≡◌, ◌++◌, take}
use Rattle.trip_patterns.specs.FirstFit.{rows_of}
use Rattle.snapshot_store.specs.Changing.{kept}
use Rattle.snapshot_store.proofs.rows.put_kept.Given as goal

abbrev pub invariant-loop-lane : goal.invariant-loop-lane
invariant-loop-lane l = l.runs.items ≡ l.initial.runs.items ++ kept l.changes (rows_of (take l.lane-index l.lanes))
