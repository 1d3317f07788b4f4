use Rattle.std.proofs.Common.{◌≡◌, map, take}
use Rattle.gtfs_links.specs.Linked.{stop_at}
use Rattle.gtfs_links.proofs.linking.stops.linked_stops.Given as goal

abbrev pub invariant-loop-row : goal.invariant-loop-row
invariant-loop-row l = l.linked ≡ map (stop_at l.scale l.stops) (take l.row-index l.rows)
