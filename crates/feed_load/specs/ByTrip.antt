-- Where the rows of each trip stand in a list of rows.
use Rattle.std.specs.Prelude.{◌≡◌, ℕ, ◌+◌, ◌≤◌, List, [], ◌∷◌, length, reverse, take, nat_eq, Some, slice_get}
use Rattle.std.specs.List.{filter}
use Rattle.otp_base.specs.EachAt.{EachAt}
use Rattle.feed_load.specs.declared.by_trip.TripIndex.{TripIndex}

-- the rows of a trip, in row order
abbrev pub rows_by : {Row : Type 0} → (Row → ℕ) → List Row → ℕ → List Row
rows_by trip_of rows trip = filter (λ row. nat_eq trip (trip_of row)) rows

-- The rows that one finds from a number on: it is 0 where there is none, else one more than the place of the first
-- of them, at whose place `before` has the number for the others.
abbrev pub IsChain : {Row : Type 0} → List Row → List ℕ → ℕ → List Row → Type 0
IsChain rows before from [] = from ≡ 0
IsChain rows before from (row ∷ rest) =
    (place next : ℕ) × (from ≡ place + 1) × (slice_get rows place ≡ Some row) × (slice_get before place ≡ Some next) × IsChain rows before next rest

-- the index of the first so many rows: for each trip the chain of its rows, the last one first
pub record IsIndexTo {Row : Type 0} (trip_of : Row → ℕ) (trips : ℕ) (rows : List Row) (count : ℕ) (index : TripIndex) : Type 0 where
  pub trips_are : length index.last.items ≡ trips
  pub rows_are : length index.before.items ≡ count
  pub falls : EachAt (λ place next. next ≤ place) index.before.items
  pub chains : EachAt (λ trip from. IsChain rows index.before.items from (reverse (rows_by trip_of (take count rows) trip))) index.last.items
