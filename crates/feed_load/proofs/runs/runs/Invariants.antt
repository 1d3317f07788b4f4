use Rattle.std.proofs.Common.{◌≡◌, take}
use Rattle.feed_load.specs.Marks.{AreMarks, times_of}
use Rattle.feed_load.specs.Runs.{runs_of}
use Rattle.feed_load.proofs.runs.runs.Given as goal

abbrev pub invariant-loop-day : goal.invariant-loop-day
invariant-loop-day l = record {
  kept : AreMarks l.marks;
  times : times_of l.marks ≡ times_of l.fn.marks;
  runs : l.runs ≡ runs_of l.table.trips.now l.table.calls.now l.table.headways.now (take l.day-index l.days);
}
