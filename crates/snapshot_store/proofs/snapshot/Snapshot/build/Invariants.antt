use Rattle.snapshot_store.proofs.snapshot.Snapshot.build.Given as goal

abbrev pub ghosts-build_with : goal.ghosts-build_with
ghosts-build_with a = record { name = a.blank.name; parts = a.blank.parts }
