use Rattle.otp_checks.proofs.desks.commits_what_is_pending.Given as goal

abbrev pub ghosts-commit : goal.ghosts-commit
ghosts-commit g a = record { name = a.blank.name; parts = a.blank.parts }
