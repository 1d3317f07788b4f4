use Rattle.gtfs_records.proofs.CountFacts.{records_of-few, table-few}
use Rattle.gtfs_records.specs.Table.{row_of}
use Rattle.gtfs_tables.proofs.table.read_table.Goals as goal

pub returns-clause-few : goal.returns-clause-few
returns-clause-few g c =
    let read = rw (c.in_ok-header.ensures.1, c.new-records.ensures) at c.rows_under.ensures.rows in
    table-few c.rows_under.result (row_of g.T.TableRow.kind.row_at c.in_ok-places.places) 1 _ c.args.file.now read (records_of-few c.args.file.now)
