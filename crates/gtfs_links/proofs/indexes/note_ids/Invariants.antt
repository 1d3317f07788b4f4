use Rattle.std.proofs.Common.{◌≡◌, map, drop}
use Rattle.name_index.proofs.SightFacts.{noted_all}
use Rattle.gtfs_links.proofs.indexes.note_ids.Given as goal

abbrev pub invariant-loop-row : goal.invariant-loop-row
invariant-loop-row g l = noted_all l.names (map g.R.Identified.id_of (drop l.row-index l.rows)) ≡ noted_all l.fn.names (map g.R.Identified.id_of l.rows)
