use Rattle.feed_load.proofs.RowFacts.{ends_have}
use Rattle.feed_load.proofs.trip_calls.trip_calls.Goals as goal

pub returns-in-None-clause-calls : goal.returns-in-None-clause-calls
returns-in-None-clause-calls c =
    rw c.from_vec.ensures (record {
      ends = ends_have c.args.rows.now c.in_ok-ends.ends c.in_ok-ends.ensures.ends;
      are = c.in_ok-calls.ensures;
      never_fall = rw c.deref.ensures.value at c.in-None.ensures;
    })
