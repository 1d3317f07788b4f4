use Rattle.std.proofs.Common.{◌∙◌, ap, ℕ, Some}
use Rattle.otp_model.specs.declared.journey.Cursor.{Cursor}
use Rattle.otp_model.specs.declared.journey.Found.{Found}
use Rattle.plan_json.proofs.DataFacts.{behind-last}
use Rattle.plan_json.proofs.body.cursor_behind.Goals as goal

abbrev at_value : ℕ → Found → Cursor
at_value commit found = record { commit = commit; value = found.value }

pub returns : goal.returns
returns c = ap (λ (found : Found). Some (at_value c.args.number found)) c.last-item.is ∙ behind-last c.args.number c.args.found.now c.last-item.result c.in-len1-up.len_at_least
