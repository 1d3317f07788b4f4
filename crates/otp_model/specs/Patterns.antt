-- Patterns: the stops that a run calls at, with boarding and alighting there. Runs of one pattern and day are kept
-- together, and a change of one of them touches the calls of all.
use Rattle.std.specs.Prelude.{ℕ, List, [], ◌∷◌, ◌++◌, length, map, Bool, true, false, ◌==◌, ◌&&◌, not, sum_by}
use Rattle.std.specs.List.{filter, flat_map, list_any}
use Rattle.std.specs.Ordering.{int_eq}
use Rattle.otp_model.specs.Resolution.{is_same_name}
use Rattle.otp_model.specs.Schedule.{run_with}
use Rattle.otp_model.specs.declared.change.Change.{Change}
use Rattle.otp_model.specs.declared.timetable.Call.{Call}
use Rattle.otp_model.specs.declared.timetable.Run.{Run}

-- a stop of a pattern, and whether vehicles are boarded and left there
pub record Spot : Type 0 where
  pub stop : ℕ
  pub board : Bool
  pub alight : Bool

abbrev pub spot_of : Call → Spot
spot_of call = record { stop = call.stop; board = call.board; alight = call.alight }

abbrev pub pattern_of : Run → List Spot
pattern_of run = map spot_of run.calls

abbrev pub is_same_flag : Bool → Bool → Bool
is_same_flag true other = other
is_same_flag false other = not other

abbrev pub is_same_spot : Spot → Spot → Bool
is_same_spot a b = (a.stop == b.stop) && (is_same_flag a.board b.board && is_same_flag a.alight b.alight)

abbrev pub is_same_pattern : List Spot → List Spot → Bool
is_same_pattern [] [] = true
is_same_pattern [] (b ∷ bs) = false
is_same_pattern (a ∷ as') [] = false
is_same_pattern (a ∷ as') (b ∷ bs) = is_same_spot a b && is_same_pattern as' bs

-- runs of one pattern and day
abbrev pub is_of_one_block : Run → Run → Bool
is_of_one_block a b = int_eq a.name.day b.name.day && is_same_pattern (pattern_of a) (pattern_of b)

abbrev pub is_changed : List Change → Run → Bool
is_changed changes run = list_any (λ (change : Change). is_same_name change.name run.name) changes

-- the run that a change brings, if it has calls
abbrev pub run_changed : Change → List Run
run_changed change = run_with change.name change.calls

-- the runs without those of the changed names, and each changed run that has calls
abbrev pub with_changes : List Run → List Change → List Run
with_changes runs changes = filter (λ run. not (is_changed changes run)) runs ++ flat_map run_changed changes

-- the run is of one pattern and day with a run of a changed name
abbrev pub is_touched : List Run → List Change → Run → Bool
is_touched runs changes run = list_any (λ other. is_changed changes other && is_of_one_block run other) runs

-- how many calls a change from one schedule to another touches, in both together
abbrev pub touched : List Run → List Run → List Change → ℕ
touched before now changes = sum_by (λ (run : Run). length run.calls) (filter (is_touched (before ++ now) changes) (before ++ now))
