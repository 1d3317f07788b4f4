use Rattle.std.proofs.Common.{arith}
use Rattle.gtfs_links.proofs.IndexFacts.{noted_all_rows, noted_row}
use Rattle.gtfs_links.proofs.indexes.note_ids.Goals as goal

pub loop-row-preserved : goal.loop-row-preserved
loop-row-preserved g c =
    noted_row g.R.Identified.id_of c.args.rows.now c.loop-row.row-index c.row-item.result c.loop-row.names c.note.new.self _ (omega arith) c.row-item.is
    (rw c.id.ensures at c.in_ok-note.ensures) c.loop-row.invariant

pub returns : goal.returns
returns g c = noted_all_rows g.R.Identified.id_of c.args.rows.now c.loop-row.row-index c.args.names.now c.loop-row.names (omega arith) c.loop-row.invariant
