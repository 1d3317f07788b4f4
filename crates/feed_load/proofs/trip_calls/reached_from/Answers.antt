use Rattle.std.proofs.Common.{◌+◌, ◌-◌, min, length, arith}
use Rattle.feed_load.proofs.RowFacts.{reached_stays, untimed_at}
use Rattle.feed_load.proofs.trip_calls.reached_from.Goals as goal

pub returns-in-None : goal.returns-in-None
returns-in-None c =
    reached_stays c.args.rows.now c.args.place (min (c.args.place + 1) (length c.args.rows.now - 1)) c.args.behind (omega arith) c.requires.behind (omega (arith, c.requires.within))
    (untimed_at c.args.rows.now c.args.place _ c.requires.within c.in-None.ensures.given)
