use Rattle.std.specs.Arc.{arc_value}
use Rattle.otp_session.proofs.PlanLemmas.{entry_of}
use Rattle.otp_session.proofs.ReplyLemmas.{plan_taken}
use Rattle.otp_session.proofs.answering.taken_plan.Goals as goal

pub returns-clause-step : goal.returns-clause-step
returns-clause-step c =
    let took = c.in-Ok.ensures.ok in
    let feed = arc_value c.args.base.now.feed in
    plan_taken feed c.args.base.now.edges c.args.request.now c.args.session.now c.take.new.self c.keep.new.self took.0 c.page-reply.result took.1 c.keep.ensures
    (c.page-reply.ensures.plan took.0 (entry_of feed c.args.session.now c.take.new.self took.0 c.in-Ok.view took.1 took.2 c.requires.feed))
