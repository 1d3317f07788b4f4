use Rattle.std.proofs.Common.{refl, subst}
use Rattle.std.specs.Arc.{arc_value}
use Rattle.reply_bodies.specs.Plans.{IsPlanOf}
use Rattle.snapshot_store.specs.Snapshots.{runs_of}
use Rattle.otp_session.proofs.PlanLemmas.{plan_over, served_in}
use Rattle.otp_session.proofs.answering.page.Goals as goal

pub plan_body-requires-clause-served : goal.plan_body-requires-clause-served
plan_body-requires-clause-served c =
    rw (c.deref.ensures, c.deref-2.ensures)
    (served_in (arc_value c.args.base.now.feed) c.requires.entry.0 (arc_value c.args.view.now.snapshot) c.requires.ready.sound c.requires.entry.1.stands)

pub returns-in-Ok-clause-plan : goal.returns-in-Ok-clause-plan
returns-in-Ok-clause-plan c = λ history entry. (
  refl,
  plan_over (arc_value c.args.base.now.feed) c.args.base.now.edges c.args.request.now history (arc_value c.args.view.now.snapshot) c.args.view.now.number c.in-Ok.body entry
      (subst (λ snapshot. IsPlanOf (runs_of snapshot) c.args.base.now.edges c.args.request.now c.args.view.now.number c.in-Ok.body) c.deref-2.ensures c.in-Ok.ensures.plan),
)
