use Rattle.std.proofs.Common.{ap, inl, refl}
use Rattle.plan_json.specs.declared.body.Body.TheVariants.{Status}
use Rattle.otp_session.proofs.PlanLemmas.{entry_of}
use Rattle.otp_session.proofs.answering.status.Goals as goal

pub returns-clause-step : goal.returns-clause-step
returns-clause-step c =
    let took = c.in-Ok.ensures.ok in
    let entry = entry_of c.args.session.now.pass.feed c.args.session.now c.take.new.self took.0 c.in-Ok.view took.1 took.2 refl in
    inl (took.0, took.1, (refl, ap (λ number. Status number) entry.numbered))
