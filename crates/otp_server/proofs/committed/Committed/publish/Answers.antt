use Rattle.std.proofs.Common.{◌≡◌, [], ◌∷◌, ◌++◌, sym, subst, ◌∙◌}
use Rattle.std.specs.List.Sorted.{IsPermutation}
use Rattle.std.proofs.lemmas.List.Sorted.{IsPermutation-trans}
use Rattle.otp_model.specs.Patterns.{with_changes}
use Rattle.otp_model.specs.Schedule.{sched}
use Rattle.otp_model.specs.declared.message.Commit.{Commit}
use Rattle.otp_model.specs.declared.timetable.Feed.{Feed}
use Rattle.snapshot_store.specs.Snapshots.{runs_of}
use Rattle.otp_server.proofs.CommittedFacts.{changed_permuted}
use Rattle.otp_server.proofs.committed.Committed.publish.Goals as goal

pub returns-clause-stands : goal.returns-clause-stands
returns-clause-stands g c = λ history commit is same stands.
    let feed = c.args.lookup.now in
    let before = runs_of c.args.self.now.snapshot in
    let commits : c.in-Ok.prepared.commit ≡ commit = λ i. record { messages = (c.in-Ok.ensures.messages ∙ sym is) i } in
    let own = subst (λ (f : Feed). IsPermutation (sched f (history ++ c.in-Ok.prepared.commit ∷ [])) (with_changes (sched f history) c.in-Ok.prepared.changes)) c.feed.ensures.feed (c.in-Ok.ensures.schedule history same) in
    let prepared = subst (λ (k : Commit). IsPermutation (sched feed (history ++ k ∷ [])) (with_changes (sched feed history) c.in-Ok.prepared.changes)) commits own in
    let changed = subst (λ changes. IsPermutation (with_changes before changes) (runs_of c.in-Ok-with_changes.snapshot)) c.as_slice.ensures c.in-Ok-with_changes.ensures.stands in
    IsPermutation-trans _ _ _ prepared (IsPermutation-trans _ _ _ (changed_permuted (sched feed history) before c.in-Ok.prepared.changes stands) changed)
