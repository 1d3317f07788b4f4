use Rattle.feed_load.proofs.OrderFacts.{in_order_rows}
use Rattle.feed_load.proofs.trips.ordered_calls.Goals as goal

pub trip_calls-requires-clause-rows : goal.trip_calls-requires-clause-rows
trip_calls-requires-clause-rows c =
    let made = c.in_ok-sort_by_sequence.ensures in
    rw c.deref.ensures.value (in_order_rows c.args.rows.items c.sort_by_sequence.new.rows.items made.count made.ordered c.requires.rows)
