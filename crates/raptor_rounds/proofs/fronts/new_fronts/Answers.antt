use Rattle.raptor_rounds.proofs.FrontLemmas.{fronts_more_empty}
use Rattle.raptor_rounds.proofs.fronts.new_fronts.Goals as goal

pub loop-preserved : goal.loop-preserved
loop-preserved c = λ finals. rw c.in_ok-push.ensures.items (fronts_more_empty finals c.loop.fronts.items c.new.result c.new.ensures (c.loop.invariant finals))
