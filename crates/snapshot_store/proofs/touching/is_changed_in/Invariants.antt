use Rattle.std.proofs.Common.{◌≡◌, take, false}
use Rattle.std.specs.List.{list_any}
use Rattle.otp_model.specs.Patterns.{is_changed}
use Rattle.snapshot_store.proofs.touching.is_changed_in.Given as goal

abbrev pub invariant-loop-row : goal.invariant-loop-row
invariant-loop-row l = list_any (is_changed l.changes) (take l.row l.lane.runs) ≡ false
