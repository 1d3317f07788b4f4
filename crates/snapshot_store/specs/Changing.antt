-- The runs that changes leave.
use Rattle.std.specs.Prelude.{◌≡◌, ℕ, List, ◌++◌, length, sum_by, Bool, not, ◌==◌, ◌||◌, if◌then◌else◌}
use Rattle.std.specs.List.{filter, list_any}
use Rattle.otp_model.specs.Names.{IsNameBelow}
use Rattle.otp_model.specs.Patterns.{is_changed}
use Rattle.otp_model.specs.Resolution.{is_same_name}
use Rattle.otp_model.specs.declared.change.Change.{Change}
use Rattle.otp_model.specs.declared.run_name.RunName.{RunName}
use Rattle.otp_model.specs.declared.timetable.Run.{Run}
use Rattle.trip_patterns.specs.FirstFit.{rows_of}
use Rattle.trip_patterns.specs.Lanes.{LaneOf}
use Rattle.trip_patterns.specs.Timetables.{StandsFor}

-- changes in the order of their names, no two of which are the same
abbrev pub IsChangeBelow : Change → Change → Type 0
IsChangeBelow a b = IsNameBelow a.name b.name

-- whether some change has this name
abbrev pub has_change : List Change → RunName → Bool
has_change changes name = list_any (λ (change : Change). is_same_name change.name name) changes

abbrev pub is_kept : List Change → Run → Bool
is_kept changes run = not (is_changed changes run)

-- the runs without those of the changed names
abbrev pub kept : List Change → List Run → List Run
kept changes runs = filter (is_kept changes) runs

-- some run that the changes bring is put into the block, or some row of it is of a changed name
abbrev pub is_opened : List Change → List Run → List LaneOf → Bool
is_opened changes own lanes = not (length own == 0) || list_any (is_changed changes) (rows_of lanes)

-- how many calls are written for a block that keeps the runs that no change has, and into which these are put
abbrev pub written : List Change → List Run → List LaneOf → ℕ
written changes own lanes = if is_opened changes own lanes then sum_by (λ (run : Run). length run.calls) (kept changes (rows_of lanes) ++ own) else 0

-- behind the blocks that were there stand blocks of these runs
pub record AreAdded (runs : List Run) (before after : List (List LaneOf)) : Type 0 where
  pub blocks : List (List LaneOf)
  pub after_is : after ≡ before ++ blocks
  pub stand : StandsFor blocks runs
