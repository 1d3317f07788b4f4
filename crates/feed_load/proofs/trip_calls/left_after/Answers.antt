use Rattle.feed_load.proofs.RowFacts.{left_stays, untimed_at}
use Rattle.feed_load.proofs.trip_calls.left_after.Goals as goal

pub returns-in-None : goal.returns-in-None
returns-in-None c =
    left_stays c.args.rows.now c.args.place c.args.before c.requires.before (untimed_at c.args.rows.now c.args.place _ c.requires.within c.in-None.ensures.given)
