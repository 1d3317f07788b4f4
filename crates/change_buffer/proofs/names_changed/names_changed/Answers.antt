use Rattle.std.proofs.Common.{List, ◌++◌, subst}
use Rattle.otp_model.specs.declared.change.Change.{Change}
use Rattle.change_buffer.specs.Forms.{names_pending}
use Rattle.change_buffer.specs.declared.feed_state.FeedState.{FeedState}
use Rattle.change_buffer.proofs.StepLemmas.{flat_read}
use Rattle.std.proofs.Common.{◌≡◌}
use Rattle.change_buffer.proofs.names_changed.names_changed.Goals as goal

pub loop-feed-preserved : goal.loop-feed-preserved
loop-feed-preserved c =
    flat_read (λ (state : FeedState). names_pending state.said.committed state.said.pending) c.loop-feed.names.items c.push_pending.new.names.items c.args.feeds.now c.loop-feed.feed-index c.feed-item.result
    c.loop-feed-test.true c.feed-item.is c.loop-feed.invariant
    (subst (λ (changes : List Change). c.push_pending.new.names.items ≡ c.loop-feed.names.items ++ names_pending changes c.feed-item.result.said.pending) c.as_slice.ensures c.in_ok-push_pending.ensures)
