use Rattle.std.proofs.Common.{◌≡◌, min}
use Rattle.std.specs.List.{flat_map, range_with_len}
use Rattle.feed_load.specs.Marks.{AreMarks, times_of}
use Rattle.feed_load.specs.Runs.{call_count}
use Rattle.feed_load.proofs.CountFacts.{runs_by_trip}
use Rattle.feed_load.proofs.counts.count_calls.Given as goal

abbrev pub invariant-loop-number : goal.invariant-loop-number
invariant-loop-number l = record {
  kept : AreMarks l.marks;
  times : times_of l.marks ≡ times_of l.fn.marks;
  count : l.count ≡ min (call_count (flat_map (runs_by_trip l.table.trips.now l.table.calls.now l.table.headways.now l.days) (range_with_len 0 l.number))) 40000001;
}
