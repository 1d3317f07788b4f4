-- The order of blocks: by day, and then by pattern.
use Rattle.std.specs.Prelude.{ℕ, ◌+◌, ◌*◌, pos, List, [], ◌∷◌, map, Bool, if◌then◌else◌}
use Rattle.std.specs.Cmp.Lexicographic.{slice_cmp}
use Rattle.std.specs.List.Sorted.{IsSortedByKey}
use Rattle.std.specs.Ordering.{int_cmp, is_eq, is_lt, nat_cmp, ordering_then}
use Rattle.std.specs.declared.cmp.Ordering.{Ordering}
use Rattle.std.specs.declared.cmp.Ordering.TheVariants.{Greater}
use Rattle.otp_model.specs.Patterns.{Spot}
use Rattle.otp_model.specs.declared.timetable.Run.{Run}
use Rattle.trip_patterns.specs.Lanes.{LaneOf, empty_lane}

abbrev pub flag_number : Bool → ℕ
flag_number flag = if flag then 1 else 0

-- a number that tells a spot from all others
abbrev pub spot_number : Spot → ℕ
spot_number spot = 4 * spot.stop + 2 * flag_number spot.board + flag_number spot.alight

abbrev pub pattern_cmp : List Spot → List Spot → Ordering
pattern_cmp a b = slice_cmp nat_cmp (map spot_number a) (map spot_number b)

abbrev pub lane_cmp : LaneOf → LaneOf → Ordering
lane_cmp a b = ordering_then (int_cmp a.day b.day) (pattern_cmp a.pattern b.pattern)

-- runs of which those of one pattern and day stand together
abbrev pub AreByBlock : List Run → Type 0
AreByBlock runs = IsSortedByKey empty_lane lane_cmp runs

-- the run beside the block of these lanes, which is before all runs where it has none
abbrev pub block_cmp : Run → List LaneOf → Ordering
block_cmp run [] = Greater
block_cmp run (lane ∷ lanes) = lane_cmp (empty_lane run) lane

-- the run is of the day and pattern of these lanes
abbrev pub is_of_lanes : List LaneOf → Run → Bool
is_of_lanes lanes run = is_eq (block_cmp run lanes)

abbrev pub is_before : List LaneOf → Run → Bool
is_before lanes run = is_lt (block_cmp run lanes)

-- the first lane of a block, whose day and pattern are the block's
abbrev pub block_lane : List LaneOf → LaneOf
block_lane [] = record { day = pos 0; pattern = []; runs = [] }
block_lane (lane ∷ lanes) = lane

-- blocks by day, and on one day by pattern
abbrev pub AreInOrder : List (List LaneOf) → Type 0
AreInOrder blocks = IsSortedByKey block_lane lane_cmp blocks
