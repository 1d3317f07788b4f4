use Rattle.std.specs.Arc.{arc_value}
use Rattle.otp_session.proofs.answering.answer.Goals as goal

pub returns-in-Status-clause-sendable : goal.returns-in-Status-clause-sendable
returns-in-Status-clause-sendable c = c.status.ensures.sendable (arc_value c.args.base.now.feed)
