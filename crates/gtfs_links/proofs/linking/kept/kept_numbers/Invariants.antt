use Rattle.gtfs_links.proofs.KeptFacts.{AreNumberedTo}
use Rattle.gtfs_links.proofs.linking.kept.kept_numbers.Given as goal

abbrev pub invariant-loop-count : goal.invariant-loop-count
invariant-loop-count l = AreNumberedTo l.counts l.numbers l.kept l.count-index
