use Rattle.std.proofs.Common.{◌≡◌, ℕ, ◌+◌, ◌≤◌, ◌||◌}
use Rattle.feed_load.specs.Marks.{AreMarks, is_marked, marked_count, times_of}
use Rattle.feed_load.specs.Starts.{is_start_of}
use Rattle.feed_load.proofs.StartLemmas.{cut_at}
use Rattle.feed_load.proofs.starts.mark_starts.Given as goal

abbrev pub invariant-loop-turn : goal.invariant-loop-turn
invariant-loop-turn l = record {
  kept : AreMarks l.marks;
  times : times_of l.marks ≡ times_of l.initial.marks;
  marked : (time : ℕ) → is_marked l.marks time ≡ (is_start_of time (cut_at l.row l.turn) || is_marked l.initial.marks time);
  count : marked_count l.marks ≡ marked_count l.initial.marks + l.count;
  few : l.count ≤ l.turn;
}
