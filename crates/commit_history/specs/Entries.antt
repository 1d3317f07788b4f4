-- What a published entry stands for.
use Rattle.std.specs.Prelude.{◌≡◌, ℕ, ◌^◌, ◌≤◌, List, length}
use Rattle.std.specs.List.Sorted.{IsPermutation}
use Rattle.otp_model.specs.Schedule.{sched}
use Rattle.otp_model.specs.declared.message.Commit.{Commit}
use Rattle.otp_model.specs.declared.timetable.Feed.{Feed}
use Rattle.snapshot_store.specs.Snapshots.{runs_of}
use Rattle.snapshot_store.specs.declared.snapshot.Snapshot.{Snapshot}

-- the snapshot has the runs of the schedule after a history, each once
abbrev pub IsSnapshotOf : Snapshot → Feed → List Commit → Type 0
IsSnapshotOf snapshot feed history = IsPermutation (sched feed history) (runs_of snapshot)

-- the number and the snapshot are those of a history
pub record IsEntry (feed : Feed) (history : List Commit) (number : ℕ) (snapshot : Snapshot) : Type 0 where
  pub numbered : number ≡ length history
  pub within : length history ≤ 2 ^ 40
  pub stands : IsSnapshotOf snapshot feed history
