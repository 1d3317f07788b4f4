use Rattle.std.proofs.Common.{◌≡◌, ◌++◌}
use Rattle.std.specs.List.{flat_map, range_with_len}
use Rattle.feed_load.specs.Marks.{AreMarks, times_of}
use Rattle.feed_load.specs.Runs.{runs_at}
use Rattle.feed_load.proofs.runs.add_day.Given as goal

abbrev pub invariant-loop-number : goal.invariant-loop-number
invariant-loop-number l = record {
  kept : AreMarks l.marks;
  times : times_of l.marks ≡ times_of l.fn.marks;
  runs : l.runs ≡ l.fn.runs ++ flat_map (runs_at l.table.trips.now l.table.calls.now l.table.headways.now l.day) (range_with_len 0 l.number);
}
