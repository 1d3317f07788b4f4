use Rattle.std.proofs.Common.{◌≡◌, take, Some}
use Rattle.std.specs.List.{slice_get}
use Rattle.otp_model.specs.declared.timetable.Run.{Run}
use Rattle.snapshot_store.proofs.rows.run_at.Given as goal

abbrev pub invariant-loop-position : goal.invariant-loop-position
invariant-loop-position l = (run : Run) → slice_get l.lane.runs l.row ≡ Some run → l.calls.items ≡ take l.position run.calls
