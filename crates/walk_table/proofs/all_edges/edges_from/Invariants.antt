use Rattle.std.proofs.Common.{[], ◌≤◌, length, take}
use Rattle.otp_base.specs.Adds.{Adds, FromSome}
use Rattle.walk_table.proofs.EdgeLemmas.{IsEdgeAt, next_at}
use Rattle.walk_table.proofs.RisingLemmas.{IsRisingTo}
use Rattle.walk_table.proofs.all_edges.edges_from.Given as goal

abbrev pub invariant-loop-number : goal.invariant-loop-number
invariant-loop-number l = record {
  reached : Adds (FromSome (IsEdgeAt l.ground.stops.now l.rows.items l.ground.profile.now l.from.number l.from.stop.now) (take l.number-index l.number-items)) [] l.list.items;
  rising : IsRisingTo (λ edge. edge.to) (next_at l.ground.stops.now l.number-items l.number-index) l.list.items;
  few : length l.list.items ≤ l.room;
}
