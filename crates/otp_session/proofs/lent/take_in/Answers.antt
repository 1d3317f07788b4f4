use Rattle.otp_session.proofs.lent.take_in.Goals as goal

pub returns-clause-step : goal.returns-clause-step
returns-clause-step g c = rw c.if-commit.false (c.offer.ensures.step c.args.session.now)
