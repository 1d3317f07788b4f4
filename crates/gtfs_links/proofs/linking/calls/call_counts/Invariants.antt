use Rattle.gtfs_links.proofs.KeptFacts.{AreCountedTo}
use Rattle.gtfs_links.proofs.linking.calls.call_counts.Given as goal

abbrev pub invariant-loop-place : goal.invariant-loop-place
invariant-loop-place l = AreCountedTo l.trips l.rows l.counts.items l.place
