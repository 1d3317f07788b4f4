use Rattle.commit_history.proofs.KeepingLemmas.{enters}
use Rattle.commit_history.proofs.entering.enter.Goals as goal

pub enter_as-requires : goal.enter_as-requires
enter_as-requires c = enters _ _
