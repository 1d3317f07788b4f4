use Rattle.std.specs.Prelude.{◌≡◌, length}
use Rattle.otp_checks.proofs.desks.refuses_older_messages.Given as goal

abbrev pub invariant-loop-timestamp : goal.invariant-loop-timestamp
invariant-loop-timestamp g l = length l.desk.state.slots ≡ 1
