use Rattle.std.proofs.Common.{◌≡◌, ◌∙◌, length, sym, subst}
use Rattle.commit_desk.specs.Desks.{DeskView}
use Rattle.otp_checks.proofs.SlotLemmas.{accepts_keeps}
use Rattle.otp_checks.proofs.desks.accept.Goals as goal

pub returns : goal.returns
returns c = record {
  one =
      subst (λ (desk : DeskView). length desk.state.slots ≡ 1) (sym c.accept.ensures.state)
      (accepts_keeps c.args.message c.args.desk.now.state ∙ c.requires.one);
}
