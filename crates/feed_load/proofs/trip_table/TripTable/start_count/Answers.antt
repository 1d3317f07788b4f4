use Rattle.feed_load.specs.Marks.{times_of}
use Rattle.feed_load.proofs.trip_table.TripTable.start_count.Goals as goal

pub count_starts-requires-clause-rows : goal.count_starts-requires-clause-rows
count_starts-requires-clause-rows c = rw c.deref.ensures.value (c.in_ok-rows.ensures.headways (times_of c.args.marks.now) c.requires.table.headways)
