use Rattle.std.proofs.Common.{◌≡◌, []}
use Rattle.gtfs_links.specs.Faults.{AreFineBefore, first_wrong}
use Rattle.gtfs_links.proofs.FaultFacts.{found_from}
use Rattle.gtfs_links.proofs.check.rows.check_rows.Given as goal

abbrev pub invariant-loop-place : goal.invariant-loop-place
invariant-loop-place g l = record {
  fine : AreFineBefore (g.C.Rule.rule l.rule) l.rows l.place;
  found : found_from l.file (g.C.Rule.rule l.rule) l.rows l.place ≡ first_wrong l.file (g.C.Rule.rule l.rule) [] l.rows;
}
