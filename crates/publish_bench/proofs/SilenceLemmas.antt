-- A history without messages leaves the schedule as the feed has it.
use Rattle.std.proofs.Common.{◌≡◌, ◌∙◌, ℕ, List, [], ◌∷◌, ◌++◌, Option, None, refl, sym, subst}
use Rattle.std.specs.List.{flat_map}
use Rattle.std.specs.List.Sorted.{IsPermutation}
use Rattle.std.proofs.lemmas.List.{append-nil}
use Rattle.otp_model.specs.Moves.{first_of}
use Rattle.otp_model.specs.Schedule.{added_names, form_up_to, in_order, latest_or, message_in, most_feed, most_in, planned_run, sched}
use Rattle.otp_model.specs.declared.message.Commit.{Commit}
use Rattle.otp_model.specs.declared.message.Message.{Message}
use Rattle.otp_model.specs.declared.timetable.Feed.{Feed}
use Rattle.otp_model.specs.declared.timetable.Run.{Run}
use Rattle.snapshot_store.specs.Snapshots.{runs_of}
use Rattle.snapshot_store.specs.declared.snapshot.Snapshot.{Snapshot}
use Rattle.commit_history.specs.Entries.{IsSnapshotOf}
use Rattle.publish_bench.specs.Silence.{HasRunsOf, IsSilent}

pub silent_base : IsSilent []
unfolding latest_or most_feed
silent_base = record { feeds = refl; messages = λ number. refl }

latest_more : (before : Option Message) (number : ℕ) (history : List Commit) (commit : Commit) → commit.messages ≡ []
    → latest_or before number (history ++ commit ∷ []) ≡ latest_or before number history
unfolding latest_or
latest_more before number [] commit none = rw none refl
latest_more before number (first ∷ history) commit none = latest_more (first_of (message_in number first) before) number history commit none

most_more : (history : List Commit) (commit : Commit) → commit.messages ≡ [] → most_feed (history ++ commit ∷ []) ≡ most_feed history
unfolding most_feed most_in
most_more [] commit none = rw none refl
most_more (first ∷ history) commit none = rw (most_more history commit none) refl

pub silent_more : (history : List Commit) (commit : Commit) → commit.messages ≡ [] → IsSilent history → IsSilent (history ++ commit ∷ [])
silent_more history commit none silent = record {
  feeds = most_more history commit none ∙ silent.feeds;
  messages = λ number. latest_more None number history commit none ∙ silent.messages number;
}

planned_silent : (feed : Feed) (history : List Commit) (run : Run) → IsSilent history → planned_run feed history run ≡ run ∷ []
unfolding form_up_to
planned_silent feed history run silent = rw (silent.feeds, silent.messages 0) refl

all_planned : (feed : Feed) (history : List Commit) (runs : List Run) → IsSilent history → flat_map (planned_run feed history) runs ≡ runs
all_planned feed history [] silent = refl
all_planned feed history (run ∷ runs) silent = rw (planned_silent feed history run silent, all_planned feed history runs silent) refl

none_added : (feed : Feed) (history : List Commit) → IsSilent history → added_names feed history ≡ []
unfolding in_order
none_added feed history silent = rw (silent.feeds, silent.messages 0) refl

silent_sched : (feed : Feed) (history : List Commit) → IsSilent history → sched feed history ≡ feed.runs
silent_sched feed history silent = rw (all_planned feed history feed.runs silent, none_added feed history silent) (append-nil feed.runs)

-- a snapshot of the feed's runs is the one after such a history
pub silent_stands : (feed : Feed) (history : List Commit) (snapshot : Snapshot) → IsSilent history → HasRunsOf snapshot feed → IsSnapshotOf snapshot feed history
silent_stands feed history snapshot silent has = subst (λ runs. IsPermutation runs (runs_of snapshot)) (sym (silent_sched feed history silent)) has
