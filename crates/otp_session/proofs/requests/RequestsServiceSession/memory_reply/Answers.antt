use Rattle.std.specs.Arc.{arc_value}
use Rattle.otp_session.proofs.requests.RequestsServiceSession.memory_reply.Goals as goal

pub returns : goal.returns
returns g c = c.memory_reply.ensures (arc_value c.args.self.now.base.now.feed)
