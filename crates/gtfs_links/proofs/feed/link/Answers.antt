use Rattle.std.proofs.lemmas.Result.{err_from_is_err_and}
use Rattle.gtfs_links.specs.Linked.{fault_of}
use Rattle.gtfs_links.proofs.CheckFacts.{few_ids}
use Rattle.gtfs_links.proofs.FeedFacts.{are_numbers, links_fault, links_feed, no_read}
use Rattle.gtfs_links.proofs.ResolvedFacts.{feed_resolved}
use Rattle.gtfs_links.proofs.feed.link.Goals as goal

pub of-requires-2 : goal.of-requires-2
of-requires-2 c = few_ids c.args.tables.now c.in-Ok.indexes c.requires.tables c.in-Ok.ensures

pub check-requires-clause-few : goal.check-requires-clause-few
check-requires-clause-few c = few_ids c.args.tables.now c.in-Ok.indexes c.requires.tables c.in-Ok.ensures

pub returns-in_err-check-clause-links : goal.returns-in_err-check-clause-links
returns-in_err-check-clause-links c =
    let p = err_from_is_err_and c.from_residual.result c.from_residual.ensures.1 in
    rw (p.1, p.2) (links_fault c.args.tables.now c.args.zone_name.now c.args.scale c.in_err-check.field-0.0 c.in_err-check.ensures)

pub returns-in_err-check-clause-reads_nothing : goal.returns-in_err-check-clause-reads_nothing
returns-in_err-check-clause-reads_nothing c =
    let p = err_from_is_err_and c.from_residual.result c.from_residual.ensures.1 in
    rw (p.1, p.2) (no_read c.in_err-check.field-0.0 (fault_of c.args.zone_name.now c.args.tables.now) c.in_err-check.ensures)

pub linked_feed-requires-clause-indexes : goal.linked_feed-requires-clause-indexes
linked_feed-requires-clause-indexes c = are_numbers c.args.zone_name.now c.args.tables.now c.in_ok-check.ensures c.in-Ok.indexes c.in-Ok.ensures

pub linked_feed-requires-clause-few : goal.linked_feed-requires-clause-few
linked_feed-requires-clause-few c = few_ids c.args.tables.now c.in-Ok.indexes c.requires.tables c.in-Ok.ensures

pub returns-in-Ok-linked_feed-clause-links : goal.returns-in-Ok-linked_feed-clause-links
returns-in-Ok-linked_feed-clause-links c = links_feed c.args.tables.now c.args.zone_name.now c.args.scale c.in-Ok-linked_feed.linked c.in_ok-check.ensures c.in-Ok-linked_feed.ensures

pub returns-in-Ok-linked_feed-clause-resolved : goal.returns-in-Ok-linked_feed-clause-resolved
returns-in-Ok-linked_feed-clause-resolved c = rw c.in-Ok-linked_feed.ensures (feed_resolved c.args.zone_name.now c.args.tables.now c.args.scale c.requires.tables c.in_ok-check.ensures c.requires.scale)
