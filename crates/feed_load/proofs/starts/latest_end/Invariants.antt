use Rattle.std.proofs.Common.{ℕ, ◌≤◌, take}
use Rattle.std.specs.List.{All}
use Rattle.feed_load.proofs.starts.latest_end.Given as goal

abbrev pub invariant-loop-row : goal.invariant-loop-row
invariant-loop-row l = record {
  all : All (λ row. row.end ≤ l.latest) (take l.row-index l.rows);
  least : (limit : ℕ) → All (λ row. row.end ≤ limit) l.rows → l.latest ≤ limit;
}
