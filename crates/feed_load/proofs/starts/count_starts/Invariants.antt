use Rattle.std.proofs.Common.{◌≡◌, ℕ, take}
use Rattle.feed_load.specs.Marks.{AreMarks, is_marked, marked_count, times_of}
use Rattle.feed_load.specs.Starts.{is_start}
use Rattle.feed_load.proofs.starts.count_starts.Given as goal

abbrev pub invariant-loop-row : goal.invariant-loop-row
invariant-loop-row l = record {
  kept : AreMarks l.marks;
  times : times_of l.marks ≡ times_of l.fn.marks;
  marked : (time : ℕ) → is_marked l.marks time ≡ is_start (take l.row-index l.rows) time;
  count : marked_count l.marks ≡ l.count;
}
