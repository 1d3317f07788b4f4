use Rattle.std.proofs.Common.{[]}
use Rattle.otp_base.specs.Adds.{Adds, FromBelow}
use Rattle.walk_table.specs.Reaches.{IsReachOf}
use Rattle.walk_table.proofs.RisingLemmas.{IsRisingTo}
use Rattle.walk_table.proofs.reach.reach_of.Given as goal

abbrev pub invariant-loop-n : goal.invariant-loop-n
invariant-loop-n l = record {
  reached : Adds (FromBelow (IsReachOf l.edges.profile l.points.items l.stops) l.n) [] l.list.items;
  rising : IsRisingTo (λ reach. reach.stop) l.n l.list.items;
}
