use Rattle.std.proofs.Common.{take}
use Rattle.range_search.specs.Searches.{AreOffers}
use Rattle.range_search.proofs.offers.offers_of.Given as goal

abbrev pub invariant-loop-last : goal.invariant-loop-last
invariant-loop-last g l = AreOffers (g.T.Timetable.runs l.timetable) (g.T.Timetable.blocks l.timetable) l.state (take l.last-index l.last-items) l.offers.items
