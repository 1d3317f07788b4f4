-- Where a stop stands in the patterns of blocks.
use Rattle.std.specs.Prelude.{◌≡◌, ℕ, List, [], length, map, Bool, false, ◌==◌, slice_index_or}
use Rattle.std.specs.List.{filter, flat_map, range_with_len, slice_get}
use Rattle.std.specs.Option.{option_map_or}
use Rattle.otp_model.specs.Patterns.{Spot}
use Rattle.trip_patterns.specs.declared.timetable.BlockStop.{BlockStop}
use Rattle.trip_patterns.specs.Lanes.{LaneOf}
use Rattle.snapshot_store.specs.Order.{block_lane}

-- the pattern that the lanes of a block have in common
abbrev pub block_pattern : List LaneOf → List Spot
block_pattern lanes = (block_lane lanes).pattern

abbrev pub is_stop_at : ℕ → List Spot → ℕ → Bool
is_stop_at stop pattern position = option_map_or (λ (spot : Spot). spot.stop == stop) (slice_get pattern position) false

-- the places of a stop among the first so many positions of a block's pattern
abbrev pub places_in : ℕ → ℕ → List Spot → ℕ → List BlockStop
places_in stop block pattern count = map (λ (p : ℕ). record { block = block; position = p }) (filter (is_stop_at stop pattern) (range_with_len 0 count))

-- the places of a stop in a block
abbrev pub places_of_block : List (List LaneOf) → ℕ → ℕ → List BlockStop
places_of_block blocks stop block =
    let pattern = block_pattern (slice_index_or blocks block []) in
    places_in stop block pattern (length pattern)

-- the places of a stop in the first so many blocks
abbrev pub places_before : List (List LaneOf) → ℕ → ℕ → List BlockStop
places_before blocks stop count = flat_map (places_of_block blocks stop) (range_with_len 0 count)

abbrev pub places_of : List (List LaneOf) → ℕ → List BlockStop
places_of blocks stop = places_before blocks stop (length blocks)

-- for each stop its places in the blocks; a stop behind the end of the list has none
pub record IsIndex (blocks : List (List LaneOf)) (places : List (List BlockStop)) : Type 0 where
  pub each : (stop : ℕ) → slice_index_or places stop [] ≡ places_of blocks stop
