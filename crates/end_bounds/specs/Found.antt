-- Bounds as they are kept: in tables, of which a row has the numbers of one stop or place by the number of rides more.
use Rattle.std.specs.Prelude.{◌≡◌, ℕ, ◌+◌, ◌-◌, ◌*◌, ◌≤◌, ◌<◌, List, [], length}
use Rattle.std.specs.List.{slice_get}
use Rattle.std.specs.Option.{option_map_or}
use Rattle.walk_table.specs.declared.reach.Reach.{Reach}
use Rattle.end_bounds.specs.declared.bounds.EndBounds.{EndBounds}
use Rattle.end_bounds.specs.Bounds.{Bounds}
use Rattle.end_bounds.specs.Scans.{far, number_at}
use Rattle.end_bounds.specs.Tables.{row_of}

-- the row of a block's position, where the places of each block stand from its start on
abbrev pub place_row : (columns : ℕ) (place starts : List ℕ) (block position : ℕ) → List ℕ
place_row columns place starts block position = option_map_or (λ (start : ℕ). row_of columns place (start + position)) (slice_get starts block) []

-- for how many rides they are
abbrev pub rides_of : EndBounds → ℕ
rides_of found = found.rides

-- the bounds that the tables tell
abbrev pub bounds_of : EndBounds → Bounds
bounds_of found = record {
  far = far;
  alight = λ stop more. number_at (row_of found.rides found.seconds.alight.items stop) more;
  alight_points = λ stop more. number_at (row_of found.rides found.points.alight.items stop) more;
  ready = λ stop more. number_at (row_of (found.rides - 1) found.seconds.ready.items stop) more;
  ready_points = λ stop more. number_at (row_of (found.rides - 1) found.points.ready.items stop) more;
  place = λ block position more. number_at (place_row (found.rides - 1) found.seconds.place.items found.starts.items block position) more;
}

-- The row tells the bound for each number of rides more; past its end nothing is reached.
abbrev pub IsRowOf : (bound : ℕ → ℕ) (row : List ℕ) → Type 0
IsRowOf bound row = (more : ℕ) → bound more ≡ number_at row more

-- at the reach's stop no more than its walk at a rate, if the table has the stop
pub record IsEndNumber (rate : ℕ) (table : List ℕ) (reach : Reach) : Type 0 where
  pub within : reach.stop < length table → number_at table reach.stop < far
  pub most : reach.stop < length table → number_at table reach.stop ≤ rate * reach.seconds
