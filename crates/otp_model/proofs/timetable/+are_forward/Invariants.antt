use Rattle.std.proofs.Common.{length}
use Rattle.otp_model.proofs.timetable.+are_forward.Given as goal

abbrev pub decreases-are_forward : goal.decreases-are_forward
decreases-are_forward l = length l.calls.now
