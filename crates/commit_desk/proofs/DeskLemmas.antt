-- What a commit makes of a desk.
use Rattle.std.proofs.Common.{◌≡◌, ◌≢◌, ℕ, ◌+◌, ◌<◌, ◌≤◌, ◌^◌, true, false, List, [], ◌∷◌, ◌++◌, length, map, sym, ap, subst, ◌∙◌}
use Rattle.std.specs.List.{list_any}
use Rattle.std.specs.List.Sorted.{IsPermutation}
use Rattle.std.proofs.lemmas.List.Sorted.{IsPermutation-trans}
use Rattle.otp_model.specs.Core.{History}
use Rattle.otp_model.specs.Desk.{commits, pending_in}
use Rattle.otp_model.specs.Patterns.{touched, with_changes}
use Rattle.otp_model.specs.Schedule.{AreDifferences, sched}
use Rattle.otp_model.specs.declared.change.Change.{Change}
use Rattle.otp_model.specs.declared.message.Commit.{Commit}
use Rattle.otp_model.specs.declared.timetable.Feed.{Feed}
use Rattle.change_buffer.specs.Commits.{IsCommitted, pending_of}
use Rattle.change_buffer.specs.Forms.{AreResolved}
use Rattle.change_buffer.specs.Offers.{is_pending, settled}
use Rattle.change_buffer.specs.declared.feed_state.FeedState.{FeedState}
use Rattle.rt_resolve.specs.declared.lookup.FeedIndex.{FeedIndex}
use Rattle.snapshot_store.specs.Snapshots.{runs_of}
use Rattle.snapshot_store.specs.declared.snapshot.Snapshot.{Snapshot}
use Rattle.commit_history.specs.Entries.{IsSnapshotOf}
use Rattle.commit_history.specs.Views.{WriterView}
use Rattle.commit_desk.specs.Costs.{IsCostWithin}
use Rattle.commit_desk.specs.Desks.{DeskView, IsCounted, IsDesk, desk_of, slot_of, state_of}
use Rattle.commit_desk.specs.Dones.{IsDone}
use Rattle.commit_desk.specs.declared.done.Done.TheVariants.{Committed, Nothing}
use Rattle.commit_desk.proofs.CostLemmas.{cost_within}
use Rattle.commit_desk.proofs.CountLemmas.{counted_commit}
use Rattle.commit_desk.proofs.ScheduleLemmas.{changed_permuted}
use Rattle.commit_desk.proofs.SlotLemmas.{none_pending, nothing_commits, pending_is, settled_is}

-- what is prepared over a desk: the commit of what is pending, and the differences that it makes
pub record IsPrepared (feed : Feed) (states : List FeedState) (commit : Commit) (changes : List Change) : Type 0 where
  pub messages : commit.messages ≡ pending_of states
  pub differ : (history : History) → IsCommitted states history → AreDifferences (sched feed history) (sched feed (history ++ commit ∷ [])) changes
  pub schedule : (history : History) → IsCommitted states history → IsPermutation (sched feed (history ++ commit ∷ [])) (with_changes (sched feed history) changes)

module _ (feed : Feed) (published : WriterView) (states : List FeedState) (index : FeedIndex) (newest : Snapshot) (commit : Commit) (changes : List Change)
    (desk : IsDesk feed published states index newest) (prepared : IsPrepared feed states commit changes) where
  next_messages : commit.messages ≡ pending_in (map slot_of states)
  next_messages = prepared.messages ∙ pending_is states

  pub next_stands : (next : Snapshot) → IsPermutation (with_changes (runs_of newest) changes) (runs_of next) → IsSnapshotOf next published.feed (published.history ++ commit ∷ [])
  next_stands next changed =
      subst (λ (f : Feed). IsSnapshotOf next f (published.history ++ commit ∷ [])) desk.feed_is
      (IsPermutation-trans _ _ _ (prepared.schedule published.history desk.committed)
      (IsPermutation-trans _ _ _ (changed_permuted (sched feed published.history) (runs_of newest) changes desk.stands) changed))

  pub next_most : pending_in (map slot_of states) ≢ [] → length published.history < 2 ^ 40 → (old new : ℕ)
      → new ≤ old + touched (runs_of newest) (with_changes (runs_of newest) changes) changes
      → IsCostWithin (sched published.feed published.history) (sched published.feed (commits (state_of states published.history)).history) old new
  next_most some room old new most =
      let own = cost_within (sched feed published.history) (sched feed (published.history ++ commit ∷ [])) (runs_of newest) changes old new
      (prepared.differ published.history desk.committed) desk.stands (prepared.schedule published.history desk.committed) most in
      let later : published.history ++ commit ∷ [] ≡ (commits (state_of states published.history)).history = ap (λ d. d.history) (settled_is states published.history commit some room next_messages) in
      subst (λ (h : History). IsCostWithin (sched published.feed published.history) (sched published.feed h) old new) later
      (subst (λ (f : Feed). IsCostWithin (sched f published.history) (sched f (published.history ++ commit ∷ [])) old new) desk.feed_is own)

-- the same of what stands for the parts of a desk
pub most_of : (desk : DeskView) (feed given : Feed) (published : WriterView) (states : List FeedState) (index : FeedIndex) (newest shared : Snapshot) (commit : Commit) (changes listed : List Change) (old new : ℕ)
    → IsDesk feed published states index newest → desk_of published states ≡ desk → IsPrepared given states commit changes → given ≡ feed → shared ≡ newest → listed ≡ changes
    → pending_in desk.state.slots ≢ [] → length desk.state.history < 2 ^ 40 → new ≤ old + touched (runs_of shared) (with_changes (runs_of shared) listed) listed
    → IsCostWithin (sched desk.feed desk.state.history) (sched desk.feed (commits desk.state).history) old new
most_of desk feed given published states index newest shared commit changes listed old new is view_is prepared feed_is newest_is changes_are some room most =
    let own = subst (λ (f : Feed). IsPrepared f states commit changes) feed_is prepared in
    let few = subst (λ (s : Snapshot). new ≤ old + touched (runs_of s) (with_changes (runs_of s) changes) changes) newest_is
    (subst (λ (cs : List Change). new ≤ old + touched (runs_of shared) (with_changes (runs_of shared) cs) cs) changes_are most) in
    let some_own = subst (λ (d : DeskView). pending_in d.state.slots ≢ []) (sym view_is) some in
    let room_own = subst (λ (d : DeskView). length d.state.history < 2 ^ 40) (sym view_is) room in
    subst (λ (d : DeskView). IsCostWithin (sched d.feed d.state.history) (sched d.feed (commits d.state).history) old new) view_is
    (next_most feed published states index newest commit changes is own some_own room_own old new few)

pub stands_of : (desk : DeskView) (feed given : Feed) (published : WriterView) (states : List FeedState) (index : FeedIndex) (newest shared next : Snapshot) (commit : Commit) (changes listed : List Change)
    → IsDesk feed published states index newest → desk_of published states ≡ desk → IsPrepared given states commit changes → given ≡ feed → shared ≡ newest → listed ≡ changes
    → IsPermutation (with_changes (runs_of shared) listed) (runs_of next) → IsSnapshotOf next desk.feed (desk.state.history ++ commit ∷ [])
stands_of desk feed given published states index newest shared next commit changes listed is view_is prepared feed_is newest_is changes_are changed =
    let own = subst (λ (f : Feed). IsPrepared f states commit changes) feed_is prepared in
    let moved = subst (λ (s : Snapshot). IsPermutation (with_changes (runs_of s) changes) (runs_of next)) newest_is
    (subst (λ (cs : List Change). IsPermutation (with_changes (runs_of shared) cs) (runs_of next)) changes_are changed) in
    subst (λ (d : DeskView). IsSnapshotOf next d.feed (d.state.history ++ commit ∷ [])) view_is (next_stands feed published states index newest commit changes is own next moved)

-- what is left where nothing was pending
pub done_nothing : (before now : WriterView) (states : List FeedState) (number : ℕ) (note : WriterView) → list_any is_pending states ≡ false → now ≡ before
    → number ≡ length before.history → note ≡ before
    → (desk_of now states ≡ record (desk_of before states) { state = commits (state_of states before.history) }) × IsDone (desk_of before states) (desk_of now states) (Nothing number note)
done_nothing before now states number note none same number_is note_is =
    subst (λ (w : WriterView). (desk_of w states ≡ record (desk_of before states) { state = commits (state_of states before.history) }) × IsDone (desk_of before states) (desk_of w states) (Nothing number note)) (sym same)
    (ap (λ state. record (desk_of before states) { state = state }) (sym (nothing_commits states before.history none)), (none_pending states none, (number_is, note_is)))

-- the writer after a commit
abbrev pub with_commit : WriterView → Commit → WriterView
with_commit published commit = record published { history = published.history ++ commit ∷ [] }

-- what is left after what was pending was published
pub done_committed : (before now : WriterView) (states later : List FeedState) (commit : Commit) (number : ℕ) (note : WriterView) → pending_in (map slot_of states) ≢ []
    → length before.history < 2 ^ 40 → commit.messages ≡ pending_in (map slot_of states) → now ≡ with_commit before commit → later ≡ map settled states
    → number ≡ length now.history → note ≡ now
    → (desk_of now later ≡ record (desk_of before states) { state = commits (state_of states before.history) }) × IsDone (desk_of before states) (desk_of now later) (Committed number note)
done_committed before now states later commit number note some room messages published kept number_is note_is =
    let state : state_of later now.history ≡ commits (state_of states before.history) =
    ap (λ ls. state_of ls now.history) kept ∙ (ap (λ w. state_of (map settled states) w.history) published ∙ settled_is states before.history commit some room messages) in
    ((λ i. record { feed = (published i).feed; cell = (published i).cell; state = state i }), (some, (number_is, note_is)))

-- it is a desk as before
pub still_desk : (feed : Feed) (before now : WriterView) (states later : List FeedState) (index : FeedIndex) (newest next : Snapshot) (commit : Commit) → IsDesk feed before states index newest
    → now ≡ with_commit before commit → commit.messages ≡ pending_in (map slot_of states)
    → ((history : History) (c : Commit) → c.messages ≡ pending_of states → IsCommitted states history → IsCommitted later (history ++ c ∷ []))
    → ((f : Feed) → AreResolved f states → AreResolved f later)
    → IsSnapshotOf next before.feed (before.history ++ commit ∷ []) → later ≡ map settled states → list_any is_pending states ≡ true → length before.history < 2 ^ 40
    → IsDesk feed now later index next
still_desk feed before now states later index newest next commit desk published messages committed resolved stands kept some room =
    subst (λ (w : WriterView). IsDesk feed w later index next) (sym published) (record {
      sound = desk.sound;
      indexed = desk.indexed;
      feed_is = desk.feed_is;
      committed = committed before.history commit (messages ∙ sym (pending_is states)) desk.committed;
      resolved = resolved feed desk.resolved;
      stands = subst (λ (f : Feed). IsSnapshotOf next f (before.history ++ commit ∷ [])) (sym desk.feed_is) stands;
      counted = subst (λ (ls : List FeedState). IsCounted ls (before.history ++ commit ∷ [])) (sym kept) (counted_commit states before.history commit some room desk.counted);
    })
