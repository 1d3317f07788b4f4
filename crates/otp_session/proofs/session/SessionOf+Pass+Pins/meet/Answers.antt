use Rattle.std.proofs.Common.{refl}
use Rattle.otp_session.proofs.TakeLemmas.{meet_keeps, met_ok}
use Rattle.otp_session.proofs.session.SessionOf+Pass+Pins.meet.Goals as goal

pub invariant_of-self : goal.invariant_of-self
invariant_of-self c =
    meet_keeps c.self.inside.pins c.self.inside.pass c.meet.new.pass c.args.desk.now.state.history c.meet.result c.meet.ensures.ok c.meet.ensures.turned c.meet.ensures.memory c.self.invariant

pub returns-clause-ok : goal.returns-clause-ok
returns-clause-ok c = rw (← c.self.view_is) (met_ok c.self.inside.pins c.self.inside.pass c.meet.new.pass c.args.desk.now.state.history c.meet.result c.meet.ensures.ok)

pub returns-clause-memory : goal.returns-clause-memory
returns-clause-memory c = λ e. let met = c.meet.ensures.memory e in rw (← c.self.view_is) (met.0, (met.1, refl))
