use Rattle.std.proofs.Common.{◌≡◌, drop}
use Rattle.csv.specs.Records.{fields_of}
use Rattle.gtfs_records.specs.Table.{place_from}
use Rattle.gtfs_records.proofs.header.place_of.Given as goal

abbrev pub invariant-loop-at : goal.invariant-loop-at
invariant-loop-at l = place_from l.at l.name (drop l.at (fields_of l.header)) ≡ place_from 0 l.name (fields_of l.header)
