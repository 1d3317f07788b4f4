-- Histories that leave the schedule as the feed has it.
use Rattle.std.specs.Prelude.{◌≡◌, ℕ, List, None}
use Rattle.std.specs.List.Sorted.{IsPermutation}
use Rattle.otp_model.specs.Schedule.{latest, most_feed}
use Rattle.otp_model.specs.declared.message.Commit.{Commit}
use Rattle.otp_model.specs.declared.timetable.Feed.{Feed}
use Rattle.snapshot_store.specs.Snapshots.{runs_of}
use Rattle.snapshot_store.specs.declared.snapshot.Snapshot.{Snapshot}

-- no commit has a message of any real-time feed
pub record IsSilent (history : List Commit) : Type 0 where
  pub feeds : most_feed history ≡ 0
  pub messages : (number : ℕ) → latest history number ≡ None

-- the snapshot has the feed's runs, each once
abbrev pub HasRunsOf : Snapshot → Feed → Type 0
HasRunsOf snapshot feed = IsPermutation feed.runs (runs_of snapshot)
