use Rattle.feed_load.proofs.RunFacts.{time_from}
use Rattle.feed_load.proofs.runs.call_from.Goals as goal

pub returns : goal.returns
returns c =
    rw (time_from c.args.instant c.args.call.now.arrival c.requires.instant c.requires.clocks.arrival, time_from c.args.instant c.args.call.now.departure c.requires.instant c.requires.clocks.departure)
