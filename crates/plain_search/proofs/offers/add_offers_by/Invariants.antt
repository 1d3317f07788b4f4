use Rattle.std.proofs.Common.{take}
use Rattle.otp_base.specs.Adds.{Adds, FromSome}
use Rattle.plain_search.specs.Offers.{IsOffer}
use Rattle.plain_search.proofs.offers.add_offers_by.Given as goal

abbrev pub invariant-loop-reach : goal.invariant-loop-reach
invariant-loop-reach l = Adds (FromSome (IsOffer l.request l.tail) (take l.reach-index l.access)) l.initial.offers.items l.offers.items
