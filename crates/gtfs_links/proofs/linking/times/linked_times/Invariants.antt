use Rattle.std.proofs.Common.{◌≡◌, ◌++◌, ◌+◌, drop}
use Rattle.gtfs_links.specs.Linked.{kept_ids, stop_ids, times_from, times_of}
use Rattle.gtfs_links.proofs.linking.times.linked_times.Given as goal

abbrev pub invariant-loop-place : goal.invariant-loop-place
invariant-loop-place l =
    l.times.items ++ times_from l.tables.stops (stop_ids l.tables) (kept_ids l.tables) (l.place + 1) (drop l.place l.tables.stop_times)
    ≡ times_of l.tables
