use Rattle.std.proofs.Common.{◌≡◌, ℕ, ◌<◌, length, slice_index_or}
use Rattle.walk_table.specs.declared.reach.Reach.{Reach}
use Rattle.end_bounds.specs.Found.{IsEndNumber}
use Rattle.end_bounds.proofs.exits.from_exits.Given as goal

abbrev pub invariant-loop-reach : goal.invariant-loop-reach
invariant-loop-reach l = record {
  size : length l.table.items ≡ l.stops;
  ends : (k : ℕ) (d : Reach) → k < l.reach-index → IsEndNumber l.rate l.table.items (slice_index_or l.egress k d);
}
