use Rattle.otp_session.proofs.DeskLemmas.{accepted_stays}
use Rattle.otp_session.proofs.lent.offer.Goals as goal

pub returns-in-Ok-accept-clause-place : goal.returns-in-Ok-accept-clause-place
returns-in-Ok-accept-clause-place c = accepted_stays c.args.desk.now c.accept.new.self c.args.feed_no c.args.message c.accept.ensures.state

pub returns-in-Err-Older-clause-place : goal.returns-in-Err-Older-clause-place
returns-in-Err-Older-clause-place c = accepted_stays c.args.desk.now c.accept.new.self c.args.feed_no c.args.message c.accept.ensures.state

pub returns-in-Err-CountSpent-clause-place : goal.returns-in-Err-CountSpent-clause-place
returns-in-Err-CountSpent-clause-place c = accepted_stays c.args.desk.now c.accept.new.self c.args.feed_no c.args.message c.accept.ensures.state
