use Rattle.feed_load.proofs.JoinLemmas.{on_in_step}
use Rattle.feed_load.proofs.joins.goes_on.Goals as goal

pub returns : goal.returns
returns c = on_in_step c.args.one.now c.args.other.now c.if-one-other.false c.if-other-one.false c.if-one-other-2.false
