-- Rows of headways that are in step.
use Rattle.std.specs.Prelude.{◌≡◌, ◌↔◌, ℕ, ◌+◌, ◌-◌, ◌*◌, ◌≤◌, List, Some, length, slice_get}
use Rattle.std.specs.List.{All}
use Rattle.gtfs_links.specs.declared.feed.HeadwayRow.{HeadwayRow}
use Rattle.feed_load.specs.Starts.{IsHeadway, is_start}

-- the starts of the one row go on in the other: at the same headway, in step, and before the one has ended
pub record GoesOn (one other : HeadwayRow) : Type 0 where
  pub same : one.headway ≡ other.headway
  pub turns : ℕ
  pub in_step : other.start ≡ one.start + turns * one.headway
  pub touches : other.start ≤ one.end

-- those of the last row of a list do
pub record GoesOnLast (rows : List HeadwayRow) (row : HeadwayRow) : Type 0 where
  pub last : HeadwayRow
  pub stands : slice_get rows (length rows - 1) ≡ Some last
  pub goes_on : GoesOn last row

-- the same starts by other rows, none of them only where there is none
pub record AreJoined (rows joined : List HeadwayRow) : Type 0 where
  pub starts : (time : ℕ) → is_start joined time ≡ is_start rows time
  pub none : (length joined ≡ 0) ↔ (length rows ≡ 0)
  pub headways : (times : ℕ) → All (IsHeadway times) rows → All (IsHeadway times) joined
