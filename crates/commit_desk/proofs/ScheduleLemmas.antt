-- Schedules before and after changes.
use Rattle.std.proofs.Common.{◌≡◌, Bool, not, if◌then◌else◌, List, [], ◌∷◌, refl, ap, sym, subst}
use Rattle.std.specs.List.{filter, flat_map}
use Rattle.std.specs.List.Sorted.{IsPermutation}
use Rattle.std.proofs.lemmas.List.{append-nil}
use Rattle.std.proofs.lemmas.List.Sorted.{IsPermutation-append, IsPermutation-refl}
use Rattle.otp_model.proofs.JudgedLemmas.{by_test}
use Rattle.otp_model.specs.Patterns.{is_changed, run_changed, with_changes}
use Rattle.otp_model.specs.Schedule.{added_names, form_up_to, in_order, latest_or, most_feed, planned_run, sched}
use Rattle.otp_model.specs.declared.change.Change.{Change}
use Rattle.otp_model.specs.declared.timetable.Feed.{Feed}
use Rattle.otp_model.specs.declared.timetable.Run.{Run}
use Rattle.snapshot_store.proofs.OrderLemmas.{flat_permutation}
use Rattle.snapshot_store.specs.Snapshots.{runs_of}
use Rattle.snapshot_store.specs.declared.snapshot.Snapshot.{Snapshot}
use Rattle.commit_history.specs.Entries.{IsSnapshotOf}

-- a filter gives of each item a list of at most one
filter_flat : {X : Type 0} (test : X → Bool) (xs : List X) → filter test xs ≡ flat_map (λ x. if test x then x ∷ [] else []) xs
filter_flat test [] = refl
filter_flat test (x ∷ xs) = by_test (test x) (λ t. rw t (ap (λ rest. x ∷ rest) (filter_flat test xs))) (λ f. rw f (filter_flat test xs))

pub filter_permutation : {X : Type 0} (test : X → Bool) (xs ys : List X) → IsPermutation xs ys → IsPermutation (filter test xs) (filter test ys)
filter_permutation test xs ys same = rw (filter_flat test xs, filter_flat test ys) (flat_permutation (λ x. if test x then x ∷ [] else []) xs ys same)

-- the same changes of the same runs in another order
pub changed_permuted : (runs others : List Run) (changes : List Change) → IsPermutation runs others → IsPermutation (with_changes runs changes) (with_changes others changes)
changed_permuted runs others changes same =
    let keeps : Run → Bool = λ run. not (is_changed changes run) in
    IsPermutation-append (filter keeps runs) (filter keeps others) (flat_map run_changed changes) (flat_map run_changed changes)
    (filter_permutation keeps runs others same) (IsPermutation-refl (flat_map run_changed changes))

-- without a history the schedule is that of the feed

planned_base : (feed : Feed) (run : Run) → planned_run feed [] run ≡ run ∷ []
unfolding form_up_to latest_or most_feed
planned_base feed run = refl

all_base : (feed : Feed) (runs : List Run) → flat_map (planned_run feed []) runs ≡ runs
all_base feed [] = refl
all_base feed (run ∷ runs) = rw (planned_base feed run, all_base feed runs) refl

no_added : (feed : Feed) → added_names feed [] ≡ []
unfolding in_order latest_or most_feed
no_added feed = refl

pub base_sched : (feed : Feed) → sched feed [] ≡ feed.runs
base_sched feed = rw (all_base feed feed.runs, no_added feed) (append-nil feed.runs)

-- the snapshot of a feed's runs is the one after no commit
pub base_stands : (feed : Feed) (snapshot : Snapshot) → IsPermutation feed.runs (runs_of snapshot) → IsSnapshotOf snapshot feed []
base_stands feed snapshot built = subst (λ runs. IsPermutation runs (runs_of snapshot)) (sym (base_sched feed)) built
