use Rattle.raptor_rounds.proofs.LawLemmas.{bags_cover}
use Rattle.raptor_rounds.proofs.laws.bags_cover.Goals as goal

pub returns : goal.returns
returns c = bags_cover
