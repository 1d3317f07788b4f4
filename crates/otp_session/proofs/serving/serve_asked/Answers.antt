use Rattle.std.proofs.Common.{subst, sym}
use Rattle.std.specs.Arc.{arc_value}
use Rattle.otp_session.specs.Steps.{IsSendable}
use Rattle.otp_session.proofs.serving.serve_asked.Goals as goal

pub returns-in-Update-clause-sendable : goal.returns-in-Update-clause-sendable
returns-in-Update-clause-sendable g c = subst (IsSendable (arc_value c.args.base.now.feed)) (sym c.into_reply.ensures) (c.change.ensures.sendable (arc_value c.args.base.now.feed))
