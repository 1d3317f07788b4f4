use Rattle.std.proofs.Common.{◌≡◌, ◌+◌, length, vec_len}
use Rattle.gtfs_links.proofs.RepeatFacts.{IsRising}
use Rattle.gtfs_links.proofs.check.repeats.are_rising.Given as goal

abbrev pub invariant-loop-place : goal.invariant-loop-place
invariant-loop-place g l = record {
  rising : IsRising l.names g.R.Identified.id_of g.R.Keyed.part_of l.rows l.greatest.items l.place;
  room : vec_len l.greatest ≡ length l.names + 1;
}
