use Rattle.std.proofs.Common.{refl}
use Rattle.range_search.proofs.offers.offer_of.Goals as goal

pub returns : goal.returns
returns g c = record { value_is = refl; found = λ edges r points searched on. c.in_ok-journey.ensures.found edges r c.args.last.now points searched on refl refl }
