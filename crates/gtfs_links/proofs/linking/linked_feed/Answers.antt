use Rattle.gtfs_links.specs.Linked.{is_kept}
use Rattle.gtfs_links.proofs.LinkingFacts.{feed_is, headways_placed, times_placed, told}
use Rattle.gtfs_links.proofs.linking.linked_feed.Goals as goal

pub linked_times-requires-clause-trips : goal.linked_times-requires-clause-trips
linked_times-requires-clause-trips c =
    let counted = rw c.as_slice.ensures at c.in_ok-counts.ensures in
    let numbered = rw c.as_slice-2.ensures at c.in_ok-kept.ensures in
    rw c.as_slice-6.ensures (times_placed c.args.tables.now c.args.indexes.now c.requires.indexes c.args.numbers.now c.requires.numbers c.in_ok-counts.counts counted c.in_ok-kept.kept numbered)

pub linked_headways-requires : goal.linked_headways-requires
linked_headways-requires c =
    let counted = rw c.as_slice.ensures at c.in_ok-counts.ensures in
    let numbered = rw c.as_slice-2.ensures at c.in_ok-kept.ensures in
    rw c.as_slice-8.ensures (headways_placed c.args.tables.now c.args.indexes.now c.requires.indexes c.args.numbers.now c.requires.numbers c.in_ok-counts.counts counted c.in_ok-kept.kept numbered)

pub returns : goal.returns
returns c =
    let tables = c.args.tables.now in
    let counted = rw c.as_slice.ensures at c.in_ok-counts.ensures in
    let kept = told tables c.args.indexes.now c.requires.indexes c.args.numbers.now c.requires.numbers c.in_ok-counts.counts counted in
    let trips = c.in_ok-trips.ensures (is_kept tables.stop_times) (rw (c.as_slice-3.ensures, c.as_slice-4.ensures) kept) in
    feed_is tables c.args.indexes.now c.requires.indexes c.args.scale c.in_ok-stops.stops c.in_ok-trips.trips c.in_ok-times.times c.in_ok-transfers.transfers c.passed-passed.result c.in_ok-headways.headways
    (rw c.as_slice-5.ensures at c.in_ok-stops.ensures)
    (rw c.as_slice-4.ensures at trips)
    c.in_ok-times.ensures
    (rw c.as_slice-7.ensures at c.in_ok-transfers.ensures)
    (rw c.len.ensures at c.passed-passed.ensures)
    c.in_ok-headways.ensures
