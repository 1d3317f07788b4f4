-- Least times along runs of one pattern: the hop from the departure at a position to the next arrival, and the dwell from the
-- arrival at a position to the departure there. Times may fall along a run, so both are cut at 0.
use Rattle.std.specs.Prelude.{◌≡◌, ℕ, ◌+◌, ◌<◌, min, ℤ, pos, negsuc, ◌+ℤ◌, ◌-ℤ◌, ◌≤ℤ◌, List, [], ◌∷◌, length, Option, Some, None, slice_index_or}
use Rattle.std.specs.List.{slice_get}
use Rattle.otp_model.specs.declared.timetable.Call.{Call}
use Rattle.otp_model.specs.declared.timetable.Run.{Run}
use Rattle.trip_patterns.specs.Lanes.{IsCallAt}

-- the greatest number that is told: 2 ^ 32 - 2
abbrev pub most_seconds : ℕ
most_seconds = 4294967294

-- the number, or 0 where it is negative
abbrev pub positive_part : ℤ → ℕ
positive_part (pos n) = n
positive_part (negsuc n) = 0

-- how many seconds a time is behind another, at most `most_seconds`; 0 where it is before it
abbrev pub seconds_between : ℤ → ℤ → ℕ
seconds_between from to = min (positive_part (to -ℤ from)) most_seconds

abbrev pub hop_between : Option Call → Option Call → ℕ
hop_between (Some here) (Some next) = seconds_between here.departure next.arrival
hop_between (Some here) None = most_seconds
hop_between None next = most_seconds

abbrev pub dwell_at : Option Call → ℕ
dwell_at (Some here) = seconds_between here.arrival here.departure
dwell_at None = most_seconds

-- the seconds from the departure at a position to the next arrival, or the most where there is none
abbrev pub hop_in : List Call → ℕ → ℕ
hop_in calls position = hop_between (slice_get calls position) (slice_get calls (position + 1))

-- the seconds from the arrival at a position to the departure there
abbrev pub dwell_in : List Call → ℕ → ℕ
dwell_in calls position = dwell_at (slice_get calls position)

-- the least of the times of some runs, or the most where there are none
abbrev pub least : (Run → ℕ) → List Run → ℕ
least time [] = most_seconds
least time (run ∷ runs) = min (time run) (least time runs)

abbrev pub least_hop : List Run → ℕ → ℕ
least_hop runs position = least (λ (run : Run). hop_in run.calls position) runs

abbrev pub least_dwell : List Run → ℕ → ℕ
least_dwell runs position = least (λ (run : Run). dwell_in run.calls position) runs

-- a row that arrives at the next position no earlier than it departs from this one takes so many seconds at least
pub record IsHopBound (runs : List Run) (position seconds : ℕ) : Type 0 where
  pub each : (row : ℕ) (here next : Call) → IsCallAt runs row position here → IsCallAt runs row (position + 1) next
      → here.departure ≤ℤ next.arrival → (here.departure +ℤ pos seconds) ≤ℤ next.arrival

-- a row that departs from the position no earlier than it arrives there takes so many seconds at least
pub record IsDwellBound (runs : List Run) (position seconds : ℕ) : Type 0 where
  pub each : (row : ℕ) (here : Call) → IsCallAt runs row position here
      → here.arrival ≤ℤ here.departure → (here.arrival +ℤ pos seconds) ≤ℤ here.departure

-- each number is the lesser of what it was and of the time at its position
pub record IsLowered (time : ℕ → ℕ) (old new : List ℕ) : Type 0 where
  pub len : length new ≡ length old
  pub each : (position : ℕ) → position < length old → slice_index_or new position 0 ≡ min (slice_index_or old position 0) (time position)

-- at each of so many positions the least hop and the least dwell of the runs
pub record AreLeast (positions : ℕ) (runs : List Run) (hops dwells : List ℕ) : Type 0 where
  pub hop_count : length hops ≡ positions
  pub dwell_count : length dwells ≡ positions
  pub hops_are : (position : ℕ) → position < positions → slice_index_or hops position 0 ≡ least_hop runs position
  pub dwells_are : (position : ℕ) → position < positions → slice_index_or dwells position 0 ≡ least_dwell runs position
