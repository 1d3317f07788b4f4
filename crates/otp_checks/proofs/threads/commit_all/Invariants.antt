use Rattle.std.specs.Prelude.{◌≡◌, length}
use Rattle.otp_checks.proofs.threads.commit_all.Given as goal

abbrev pub invariant-loop-bytes : goal.invariant-loop-bytes
invariant-loop-bytes g l = length l.desk.state.slots ≡ 1

abbrev pub ghosts-commit : goal.ghosts-commit
ghosts-commit g a = record { name = a.blank.name; parts = a.blank.parts }
