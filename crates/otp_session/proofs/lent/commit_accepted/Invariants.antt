use Rattle.otp_session.proofs.lent.commit_accepted.Given as goal

abbrev pub ghosts-publish : goal.ghosts-publish
ghosts-publish g a = record { name = a.blank.name; parts = a.blank.parts }
