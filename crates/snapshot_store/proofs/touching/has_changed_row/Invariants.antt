use Rattle.std.proofs.Common.{◌≡◌, take, false}
use Rattle.std.specs.List.{list_any}
use Rattle.otp_model.specs.Patterns.{is_changed}
use Rattle.trip_patterns.specs.FirstFit.{rows_of}
use Rattle.snapshot_store.proofs.touching.has_changed_row.Given as goal

abbrev pub invariant-loop-lane : goal.invariant-loop-lane
invariant-loop-lane l = list_any (is_changed l.changes) (rows_of (take l.lane-index l.lanes)) ≡ false
