use Rattle.std.proofs.Common.{ℕ, ◌<◌, get_or}
use Rattle.otp_model.specs.declared.timetable.Run.{Run}
use Rattle.otp_model.specs.Ranges.{IsTimely}
use Rattle.otp_model.proofs.journey.are_timely.Given as goal

abbrev pub invariant-loop-run : goal.invariant-loop-run
invariant-loop-run l = (k : ℕ) (d : Run) → k < l.run-index → IsTimely (get_or l.runs k d)
