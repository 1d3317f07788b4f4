use Rattle.std.proofs.Common.{refl}
use Rattle.otp_session.proofs.TakeLemmas.{take_keeps, take_ok}
use Rattle.otp_session.proofs.session.SessionOf+Pass+Pins.take.Goals as goal

pub invariant_of-self : goal.invariant_of-self
invariant_of-self c = take_keeps c.self.inside.pins c.self.inside.pass c.take.new.self c.take.result c.take.ensures.ok c.take.ensures.turned c.take.ensures.memory c.self.invariant

pub returns-clause-ok : goal.returns-clause-ok
returns-clause-ok c = rw (← c.self.view_is) (take_ok c.self.inside.pins c.self.inside.pass c.take.new.self c.take.result c.take.ensures.ok)

pub returns-clause-memory : goal.returns-clause-memory
returns-clause-memory c = λ e. let entered = c.take.ensures.memory e in rw (← c.self.view_is) (entered.0, (entered.1, refl))
