use Rattle.otp_model.proofs.CoreLemmas.{one_history}
use Rattle.otp_model.proofs.laws.one_history.Goals as goal

pub returns : goal.returns
returns c = one_history
