use Rattle.std.proofs.Common.{take}
use Rattle.otp_base.specs.Adds.{Adds, FromSome}
use Rattle.plain_search.specs.Offers.{IsOfferBy}
use Rattle.plain_search.proofs.offers.add_offers.Given as goal

abbrev pub invariant-loop-tail : goal.invariant-loop-tail
invariant-loop-tail l = Adds (FromSome (IsOfferBy l.request l.access) (take l.tail-index l.tails)) l.initial.offers.items l.offers.items
