use Rattle.std.proofs.Common.{◌≡◌, map, take}
use Rattle.gtfs_links.specs.Linked.{transfer_at}
use Rattle.gtfs_links.proofs.linking.transfers.linked_transfers.Given as goal

abbrev pub invariant-loop-row : goal.invariant-loop-row
invariant-loop-row l = l.linked ≡ map (transfer_at l.stops) (take l.row-index l.rows)
