use Rattle.std.proofs.Common.{[], List, subst, sym}
use Rattle.change_buffer.specs.Commits.{IsCommitted}
use Rattle.change_buffer.specs.declared.feed_state.FeedState.{FeedState}
use Rattle.change_buffer.specs.Forms.{AreResolved}
use Rattle.change_buffer.proofs.CommitLemmas.{committed_fresh}
use Rattle.change_buffer.proofs.ResolvedLemmas.{resolved_fresh}
use Rattle.change_buffer.proofs.buffer.Buffer.new.Goals as goal

pub returns-clause-committed : goal.returns-clause-committed
returns-clause-committed c = subst (λ (states : List FeedState). IsCommitted states []) (sym c.loop.invariant) (committed_fresh c.loop.counter)

pub returns-clause-resolved : goal.returns-clause-resolved
returns-clause-resolved c = λ feed. subst (AreResolved feed) (sym c.loop.invariant) (resolved_fresh feed c.loop.counter)
