use Rattle.std.proofs.Common.{◌-◌, arith}
use Rattle.feed_load.proofs.GapFacts.{time_computed}
use Rattle.feed_load.proofs.gap.time_between.Goals as goal

pub returns : goal.returns
returns c =
    time_computed c.args.left.time c.args.reached.time (c.args.place - c.args.left.place) (c.args.reached.place - c.args.left.place)
    c.from.result c.from-2.result c.from-3.result c.div_euclid.result c.from.ensures c.from-2.ensures c.from-3.ensures
    c.requires.leaves c.requires.arrives (omega arith) (omega arith) c.div_euclid.ensures
