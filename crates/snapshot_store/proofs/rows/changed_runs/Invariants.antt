use Rattle.std.proofs.Common.{◌≡◌, take}
use Rattle.std.specs.List.{flat_map}
use Rattle.otp_model.specs.Patterns.{run_changed}
use Rattle.snapshot_store.proofs.rows.changed_runs.Given as goal

abbrev pub invariant-loop-change : goal.invariant-loop-change
invariant-loop-change l = l.runs.items ≡ flat_map run_changed (take l.change-index l.changes)
