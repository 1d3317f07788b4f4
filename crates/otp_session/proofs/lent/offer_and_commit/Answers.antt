use Rattle.std.proofs.Common.{ap, ◌∙◌, rules}
use Rattle.commit_desk.specs.Desks.{DeskView}
use Rattle.otp_session.proofs.DeskLemmas.{accepted_stays, was_accepted}
use Rattle.otp_session.proofs.OfferLemmas.{accepted_commits}
use Rattle.otp_session.proofs.lent.offer_and_commit.Goals as goal

pub returns-in-Err-Older-clause-place : goal.returns-in-Err-Older-clause-place
returns-in-Err-Older-clause-place g c = accepted_stays c.args.desk.now c.accept.new.self c.args.feed_no c.args.message c.accept.ensures.state

pub returns-in-Err-CountSpent-clause-place : goal.returns-in-Err-CountSpent-clause-place
returns-in-Err-CountSpent-clause-place g c = accepted_stays c.args.desk.now c.accept.new.self c.args.feed_no c.args.message c.accept.ensures.state

pub returns-in-Ok-accept-clause-place : goal.returns-in-Ok-accept-clause-place
returns-in-Ok-accept-clause-place g c =
    c.commit_accepted.ensures.place ∙ accepted_stays c.args.desk.now c.accept.new.self c.args.feed_no c.args.message c.accept.ensures.state

pub returns-in-Ok-accept-clause-step : goal.returns-in-Ok-accept-clause-step
returns-in-Ok-accept-clause-step g c =
    accepted_commits c.args.desk.now.feed c.args.feed_no c.args.message c.args.desk.now.state c.accept.new.self.state c.commit_accepted.new.desk.state c.args.session.now c.commit_accepted.new.session
    c.commit_accepted.result c.in-Ok-accept.accepted c.in-Ok.resolved.ignored (search rules) (was_accepted _ c.in-Ok-accept.accepted c.in-Ok-accept.ensures.answer)
    (ap (λ (desk : DeskView). desk.state) c.accept.ensures.state) c.in-Ok.ensures.ignored c.commit_accepted.ensures.step
