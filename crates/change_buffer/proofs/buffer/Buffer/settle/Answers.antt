use Rattle.std.proofs.Common.{arith, ◌++◌, ◌∷◌, [], List, subst, sym}
use Rattle.std.proofs.lemmas.Grind.{common_steps}
use Rattle.change_buffer.specs.Commits.{IsCommitted}
use Rattle.change_buffer.specs.declared.feed_state.FeedState.{FeedState}
use Rattle.change_buffer.specs.Forms.{AreResolved}
use Rattle.change_buffer.proofs.CommitLemmas.{committed_after}
use Rattle.change_buffer.proofs.ResolvedLemmas.{resolved_settled}
use Rattle.change_buffer.proofs.buffer.Buffer.settle.Goals as goal

pub returns-clause-settled : goal.returns-clause-settled
returns-clause-settled c = grind (arith, common_steps)

pub returns-clause-committed : goal.returns-clause-committed
returns-clause-committed c = λ history commit published committed.
    subst (λ (states : List FeedState). IsCommitted states (history ++ commit ∷ [])) (sym (returns-clause-settled c)) (committed_after c.args.self.now history commit published committed)

pub returns-clause-resolved : goal.returns-clause-resolved
returns-clause-resolved c = λ feed are. subst (AreResolved feed) (sym (returns-clause-settled c)) (resolved_settled feed c.args.self.now are)
