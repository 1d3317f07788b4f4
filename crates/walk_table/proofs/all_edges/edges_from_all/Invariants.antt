use Rattle.std.proofs.Common.{◌≡◌, ◌+◌, length}
use Rattle.otp_base.specs.EachAt.{EachAt}
use Rattle.otp_model.specs.Limits.{most_edges}
use Rattle.walk_table.specs.Edges.{AreEdgesFrom, edge_count}
use Rattle.walk_table.proofs.all_edges.edges_from_all.Given as goal

abbrev pub invariant-loop-number : goal.invariant-loop-number
invariant-loop-number l = record {
  each : EachAt (AreEdgesFrom l.ground.stops.now l.transfers l.ground.profile.now) l.from;
  whole : length l.from ≡ l.number;
  room : edge_count l.from + l.room ≡ most_edges;
}
