use Rattle.rt_resolve.specs.Reasons.{number_of}
use Rattle.rt_resolve.proofs.TallyLemmas.{one_ignored}
use Rattle.rt_resolve.proofs.tally.Tally.ignore.Goals as goal

pub returns : goal.returns
returns c = λ answers so_far. one_ignored answers c.args.self.now (number_of c.args.reason) c.place.result c.place.ensures.number c.place.ensures.below so_far
