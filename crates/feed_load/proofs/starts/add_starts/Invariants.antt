use Rattle.std.proofs.Common.{◌≡◌, ℕ, ◌||◌}
use Rattle.feed_load.specs.Marks.{AreListed, AreMarks, is_marked, times_of}
use Rattle.feed_load.specs.Starts.{is_start_of}
use Rattle.feed_load.proofs.StartLemmas.{cut_at}
use Rattle.feed_load.proofs.starts.add_starts.Given as goal

abbrev pub invariant-loop-turn : goal.invariant-loop-turn
invariant-loop-turn l = record {
  kept : AreMarks l.marks;
  times : times_of l.marks ≡ times_of l.initial.marks;
  marked : (time : ℕ) → is_marked l.marks time ≡ (is_start_of time (cut_at l.row l.turn) || is_marked l.initial.marks time);
  listed : AreListed l.marks l.starts.items;
}
