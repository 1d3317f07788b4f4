use Rattle.update_checks.proofs.snapshots.a_run_goes_and_comes_back_late.Given as goal

abbrev pub ghosts-after : goal.ghosts-after
ghosts-after g a = record { name = a.blank.name; parts = a.blank.parts }
