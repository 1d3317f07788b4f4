use Rattle.std.proofs.Common.{◌≡◌, ◌++◌, Bool, drop, map}
use Rattle.std.specs.Prelude.{nat_le}
use Rattle.std.specs.List.{filter}
use Rattle.otp_model.specs.declared.tables.TripRow.{TripRow}
use Rattle.gtfs_links.specs.Linked.{trip_at}
use Rattle.gtfs_links.proofs.linking.kept.kept_trips.Given as goal

abbrev pub invariant-loop-place : goal.invariant-loop-place
invariant-loop-place l =
    (is_kept : TripRow → Bool) → map (nat_le 2) l.counts ≡ map is_kept l.rows
    → l.trips ++ map (trip_at l.indexes.routes l.indexes.services) (filter is_kept (drop l.place l.rows)) ≡ map (trip_at l.indexes.routes l.indexes.services) (filter is_kept l.rows)
