use Rattle.change_buffer.proofs.KnownLemmas.{change_name}
use Rattle.change_buffer.proofs.StepLemmas.{map_read}
use Rattle.change_buffer.proofs.names_changed.push_names.Goals as goal

pub loop-change-preserved : goal.loop-change-preserved
loop-change-preserved c =
    map_read change_name c.args.names.now.items c.loop-change.names.items c.push.new.self.items c.args.changes.now c.loop-change.change-index c.change-item.result c.in_ok-copy.field-0
    c.loop-change-test.true c.change-item.is c.loop-change.invariant c.in_ok-copy.ensures c.in_ok-push.ensures.items
