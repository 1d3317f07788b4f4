use Rattle.std.proofs.Common.{◌≡◌, ℕ, List, [], ◌∷◌, ◌++◌, map, Option, Some, None, Err, ap, sym, subst, ◌∙◌, arith}
use Rattle.std.specs.List.Sorted.{IsPermutation}
use Rattle.change_buffer.specs.Commits.{IsCommitted, pending_of}
use Rattle.change_buffer.specs.Offers.{above_of, settled}
use Rattle.change_buffer.specs.declared.feed_state.FeedState.{FeedState}
use Rattle.otp_model.specs.Schedule.{sched}
use Rattle.otp_model.specs.declared.message.Commit.{Commit}
use Rattle.snapshot_store.specs.Snapshots.{runs_of}
use Rattle.otp_server.specs.Messages.{history_of}
use Rattle.otp_server.specs.declared.committed.Uncommitted.TheVariants as uncommitted
use Rattle.otp_server.proofs.CommittedFacts.{accepted_is, all_on, next_after, not_spent, older_is, own_few, own_timestamp, place_within, some_at}
use Rattle.otp_server.proofs.committed.Committed.commit_resolved.Goals as goal

pub unreachable-requires : goal.unreachable-requires
unreachable-requires c =
    let kept = c.args.self.now in
    let after = c.requires.after in
    let state = some_at kept.buffer _ (place_within c.args.feed_no kept.buffer c.requires.first c.requires.last) in
    let few = own_few c.args.lookup.now _ c.args.feed_no after.told c.args.message c.args.changes kept kept state.0 after.after c.requires.first c.requires.last state.1 in
    let less = after.few in
    not_spent state.0 c.args.message (omega (arith, few, less)) (sym (c.offer.ensures.answer state.0 state.1) ∙ c.in-Err-CountSpent.is ∙ ap (λ fault. Err fault) c.in-Err-CountSpent.field-0-is)

pub returns-in-Ok-clause-ok : goal.returns-in-Ok-clause-ok
returns-in-Ok-clause-ok c =
    let kept = c.args.self.now in
    let feed = c.args.lookup.now in
    let number = c.args.feed_no in
    let message = c.args.message in
    let next = c.publish.new.self in
    let state = some_at kept.buffer _ (place_within number kept.buffer c.requires.first c.requires.last) in
    let offered = c.in-Ok.ensures.ok state.0 state.1 in
    all_on c.publish.result c.publish.ensures.buffer c.publish.ensures.committed c.publish.ensures.stands c.publish.ensures.resolved (λ buffer committed stands resolved told after.
    let stamp = own_timestamp feed _ number told message c.args.changes kept next state.0 after c.requires.first c.requires.last state.1 in (
      subst (λ (t : Option ℕ). above_of t message.timestamp ≡ None) stamp (accepted_is state.0 message _ (sym (c.offer.ensures.answer state.0 state.1) ∙ c.in-Ok.is)),
      next_after feed _ number told message c.args.changes kept next state.0 after c.requires.first c.requires.last state.1
          (buffer ∙ ap (map settled) offered)
          (subst (λ (b : List FeedState). (history : List Commit) (commit : Commit) → commit.messages ≡ pending_of b → IsCommitted b history → IsCommitted next.buffer (history ++ commit ∷ [])) offered committed)
          (subst (λ (b : List FeedState). (history : List Commit) (commit : Commit) → commit.messages ≡ pending_of b → IsCommitted b history → IsPermutation (sched feed history) (runs_of kept.snapshot)
          → IsPermutation (sched feed (history ++ commit ∷ [])) (runs_of next.snapshot)) offered stands)
          (subst (λ (b : List FeedState). IsCommitted b (history_of told)) offered (c.offer.ensures.committed (history_of told) after.committed)) resolved,
    ))

same_have : (a b : ℕ) → uncommitted.Older a ≡ uncommitted.Older b → a ≡ b
same_have a b e = cc

pub returns-in-Err-Older-clause-older : goal.returns-in-Err-Older-clause-older
returns-in-Err-Older-clause-older c = λ have e told after.
    let kept = c.args.self.now in
    let number = c.args.feed_no in
    let message = c.args.message in
    let state = some_at kept.buffer _ (place_within number kept.buffer c.requires.first c.requires.last) in
    let stamp = own_timestamp c.args.lookup.now _ number told message c.args.changes kept kept state.0 after c.requires.first c.requires.last state.1 in
    let refused = sym (c.offer.ensures.answer state.0 state.1) ∙ c.in-Err-Older.is ∙ ap (λ fault. Err fault) c.in-Err-Older.field-0-is in
    let is = sym c.in-Err-Older.have-is ∙ same_have _ have e in
    subst (λ (t : Option ℕ). above_of t message.timestamp ≡ Some have) stamp (older_is state.0 message c.in-Err-Older.have refused ∙ ap (λ n. Some n) is)
