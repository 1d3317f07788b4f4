use Rattle.std.proofs.Common.{◌≡◌, ◌-◌, ◌<◌, List, length, ap, arith, subst, sym}
use Rattle.change_buffer.specs.Commits.{IsCommitted}
use Rattle.change_buffer.specs.declared.feed_state.FeedState.{FeedState}
use Rattle.change_buffer.specs.Forms.{AreResolved}
use Rattle.change_buffer.proofs.CommitLemmas.{committed_offered}
use Rattle.change_buffer.proofs.ResolvedLemmas.{resolved_offered}
use Rattle.change_buffer.proofs.buffer.Buffer.offer.Goals as goal

pub returns-clause-committed : goal.returns-clause-committed
returns-clause-committed c = λ history committed.
    let here : c.self.inside.feeds.items ≡ c.args.self.now = c.self.view_is in
    let first = c.requires.first in
    let last = c.requires.last in
    let less : (c.args.feed_no - 1) < length c.self.inside.feeds.items = omega (arith, first, last, ap length here) in
    committed_offered c.self.inside.feeds.items (c.args.feed_no - 1) c.index_mut.result.now c.offer.new.self c.args.message c.args.changes c.offer.result less c.index_mut.ensures.value
    c.offer.ensures.ok c.offer.ensures.err history (subst (λ (states : List FeedState). IsCommitted states history) (sym here) committed)

pub returns-clause-resolved : goal.returns-clause-resolved
returns-clause-resolved c = λ feed made are.
    let here : c.self.inside.feeds.items ≡ c.args.self.now = c.self.view_is in
    let first = c.requires.first in
    let last = c.requires.last in
    let less : (c.args.feed_no - 1) < length c.self.inside.feeds.items = omega (arith, first, last, ap length here) in
    resolved_offered feed c.self.inside.feeds.items (c.args.feed_no - 1) c.index_mut.result.now c.offer.new.self c.args.message c.args.changes c.offer.result less c.index_mut.ensures.value
    c.offer.ensures.ok c.offer.ensures.err made (subst (AreResolved feed) (sym here) are)
