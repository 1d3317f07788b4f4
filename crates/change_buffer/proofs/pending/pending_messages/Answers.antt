use Rattle.change_buffer.proofs.StepLemmas.{pending_read}
use Rattle.change_buffer.proofs.pending.pending_messages.Goals as goal

pub loop-place-preserved : goal.loop-place-preserved
loop-place-preserved c =
    pending_read c.args.states.now c.loop-place.messages c.push_numbered.new.messages c.loop-place.place c.index-states-place.result c.loop-place-test.true c.index-states-place.is
    c.loop-place.invariant c.in_ok-push_numbered.ensures
