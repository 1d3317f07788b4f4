use Rattle.std.proofs.Common.{◌≡◌, map, take}
use Rattle.gtfs_links.specs.Keys.{AreApartBefore, is_same_key, key_in}
use Rattle.gtfs_links.proofs.check.repeats.first_noted.Given as goal

abbrev pub invariant-loop-place : goal.invariant-loop-place
invariant-loop-place g l = record {
  keys : l.keys ≡ map (key_in l.names g.R.Identified.id_of g.R.Keyed.part_of) (take l.place l.rows);
  apart : AreApartBefore (is_same_key l.names g.R.Identified.id_of g.R.Keyed.part_of) l.rows l.place;
}
