use Rattle.std.proofs.Common.{◌≡◌, ◌++◌, drop, map}
use Rattle.std.specs.List.{filter}
use Rattle.gtfs_links.specs.Linked.{headway_at, headways_of, is_headway_of, kept_ids}
use Rattle.gtfs_links.proofs.linking.headways.linked_headways.Given as goal

abbrev pub invariant-loop-place : goal.invariant-loop-place
invariant-loop-place l =
    l.headways ++ map (headway_at (kept_ids l.tables)) (filter (is_headway_of (kept_ids l.tables)) (drop l.place l.tables.frequencies))
    ≡ headways_of (kept_ids l.tables) l.tables.frequencies
