use Rattle.otp_server.proofs.committed.Committed.commit_resolved.Given as goal

abbrev pub ghosts-publish : goal.ghosts-publish
ghosts-publish a = record { name = a.blank.name; parts = a.blank.parts }
