use Rattle.std.proofs.Common.{◌≡◌, drop}
use Rattle.csv.specs.Records.{fields_of}
use Rattle.gtfs_records.specs.Faults.{each}
use Rattle.gtfs_records.specs.Table.{column_at}
use Rattle.gtfs_records.proofs.EachFacts.{with_front}
use Rattle.gtfs_tables.proofs.table.places_of.Given as goal

abbrev pub invariant-loop-column : goal.invariant-loop-column
invariant-loop-column g l =
    with_front l.places (each (column_at g.T.TableRow.kind.needed (fields_of l.header)) l.column (drop l.column g.T.TableRow.kind.columns)) ≡ each (column_at g.T.TableRow.kind.needed (fields_of l.header)) 0 g.T.TableRow.kind.columns
