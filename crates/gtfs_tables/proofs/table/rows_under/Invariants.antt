use Rattle.std.proofs.Common.{◌≡◌}
use Rattle.std.specs.List.{All}
use Rattle.gtfs_records.specs.Faults.{each}
use Rattle.gtfs_records.specs.Table.{row_of}
use Rattle.gtfs_records.proofs.EachFacts.{with_front}
use Rattle.gtfs_tables.proofs.table.rows_under.Given as goal

abbrev pub invariant-loop-row : goal.invariant-loop-row
invariant-loop-row g l = record {
  same : l.cells.places ≡ l.fn.places;
  are_read : All g.T.TableRow.is_read l.table;
  so_far : with_front l.table (each (row_of g.T.TableRow.kind.row_at l.fn.places) l.row l.records) ≡ each (row_of g.T.TableRow.kind.row_at l.fn.places) 1 l.fn.records;
}
