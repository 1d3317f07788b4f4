use Rattle.std.proofs.Common.{subst, sym}
use Rattle.otp_session.specs.Sessions.{IsNewest, SessionView}
use Rattle.otp_session.proofs.SessionLemmas.{keep_keeps, taken_of}
use Rattle.otp_session.proofs.session.SessionOf+Pass+Pins.keep.Goals as goal

pub keep-requires-clause-taken : goal.keep-requires-clause-taken
keep-requires-clause-taken c =
    taken_of c.self.inside.pass c.self.inside.pins c.args.view c.self.invariant (subst (λ (session : SessionView). IsNewest session c.args.view) (sym c.self.view_is) c.requires)

pub invariant_of-self : goal.invariant_of-self
invariant_of-self c =
    keep_keeps c.self.inside.pass c.self.inside.pins c.args.view c.self.invariant (subst (λ (session : SessionView). IsNewest session c.args.view) (sym c.self.view_is) c.requires)
    c.keep.new.self c.keep.ensures
