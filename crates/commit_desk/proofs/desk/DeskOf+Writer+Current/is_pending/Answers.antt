use Rattle.std.proofs.Common.{◌≡◌, ◌∙◌, subst}
use Rattle.otp_model.specs.Desk.{pending_in}
use Rattle.commit_desk.specs.Desks.{DeskView, has_pending}
use Rattle.commit_desk.proofs.SlotLemmas.{pending_told}
use Rattle.commit_desk.proofs.desk.DeskOf+Writer+Current.is_pending.Goals as goal

pub returns : goal.returns
returns c =
    subst (λ (d : DeskView). c.pending.result ≡ has_pending (pending_in d.state.slots)) c.self.view_is (c.pending.ensures ∙ pending_told c.self.inside.current.buffer)
