use Rattle.std.proofs.Common.{◌≡◌, ◌++◌, take}
use Rattle.snapshot_store.specs.Changing.{kept}
use Rattle.snapshot_store.proofs.rows.put_kept_rows.Given as goal

abbrev pub invariant-loop-row : goal.invariant-loop-row
invariant-loop-row l = l.runs.items ≡ l.initial.runs.items ++ kept l.changes (take l.row l.lane.runs)
