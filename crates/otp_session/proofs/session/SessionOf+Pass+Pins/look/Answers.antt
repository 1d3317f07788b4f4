use Rattle.std.proofs.Common.{◌≡◌, ap, refl, sym}
use Rattle.commit_desk.proofs.MeetingLemmas.{refused, told_of}
use Rattle.commit_history.specs.declared.pass.TakeFault.TheVariants.{Memory}
use Rattle.otp_session.proofs.TakeLemmas.{looked, session_entered, session_told, take_keeps}
use Rattle.otp_session.proofs.session.SessionOf+Pass+Pins.look.Goals as goal

pub invariant_of-self : goal.invariant_of-self
invariant_of-self c =
    let told : c.learn.new.self ≡ told_of c.self.inside.pass c.args.note.history = c.learn.ensures in
    take_keeps c.self.inside.pins c.learn.new.self c.take.new.self (refused c.in-Err.fault) tt c.in-Err.ensures.turned c.in-Err.ensures.memory
    (session_told c.self.inside.pins c.self.inside.pass c.learn.new.self c.args.note.history told c.self.invariant)

pub returns-in-Err-clause-memory : goal.returns-in-Err-clause-memory
returns-in-Err-clause-memory c = λ e.
    let told : c.learn.new.self ≡ told_of c.self.inside.pass c.args.note.history = c.learn.ensures in
    let entered = c.in-Err.ensures.memory (let same : c.in-Err.fault ≡ Memory = cc in ap refused same) in
    rw (← c.self.view_is) (entered.0, looked c.self.inside.pins c.self.inside.pass c.learn.new.self c.take.new.self c.args.note.history entered.0 told entered.1)

pub invariant_of-self-2 : goal.invariant_of-self-2
invariant_of-self-2 c =
    let told : c.learn.new.self ≡ told_of c.self.inside.pass c.args.note.history = c.learn.ensures in
    let entered = c.in-Ok.ensures.ok in
    session_entered c.self.inside.pins c.learn.new.self c.take.new.self entered.0 entered.1
    (session_told c.self.inside.pins c.self.inside.pass c.learn.new.self c.args.note.history told c.self.invariant)

pub returns-clause-ok : goal.returns-clause-ok
returns-clause-ok c =
    let told : c.learn.new.self ≡ told_of c.self.inside.pass c.args.note.history = c.learn.ensures in
    let entered = c.in-Ok.ensures.ok in
    rw (← c.self.view_is) (entered.0, looked c.self.inside.pins c.self.inside.pass c.learn.new.self c.take.new.self c.args.note.history entered.0 told entered.1, entered.2.numbered)
