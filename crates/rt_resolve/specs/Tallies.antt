-- What the first entities of a message said, kept by name.
use Rattle.std.specs.Prelude.{◌≡◌, ℕ, List, [], ◌∷◌, map, Option, is_some, Result, count_by}
use Rattle.std.specs.BTreeMap.{get}
use Rattle.std.specs.List.{flat_map, range_with_len}
use Rattle.std.specs.List.Sorted.{IsPermutation}
use Rattle.std.specs.declared.cmp.Ordering.{Ordering}
use Rattle.otp_model.specs.Names.{run_name_cmp}
use Rattle.otp_model.specs.Resolution.{change_in, has_reason, has_run_name, names_after}
use Rattle.otp_model.specs.declared.change.Change.{Change}
use Rattle.otp_model.specs.declared.run_name.RunName.{RunName}
use Rattle.otp_model.specs.declared.timetable.Call.{Call}
use Rattle.rt_resolve.specs.declared.name_key.NameKey.{NameKey}
use Rattle.rt_resolve.specs.declared.tally.Tally.{Tally}

abbrev pub key_cmp : NameKey → NameKey → Ordering
key_cmp a b = run_name_cmp a.0 b.0

abbrev pub key_of : RunName → NameKey
key_of name = record { 0 = name }

-- the change that is kept under a name
abbrev pub change_kept : NameKey × Option (List Call) → Change
change_kept entry = record { name = entry.0.0; calls = entry.1 }

-- the names for which answers resolved, after those of earlier ones
abbrev pub names_in : List RunName → List (Result Change ℕ) → List RunName
names_in names [] = names
names_in names (answer ∷ answers) = names_in (names_after names answer) answers

-- how many of the answers are each of the nine reasons
abbrev pub counts : List (Result Change ℕ) → List ℕ
counts answers = map (λ reason. count_by (has_reason reason) answers) (range_with_len 1 9)

-- a tally of these answers: their changes by name, the names that it knows, and the counts of their reasons
pub record Tallies (answers : List (Result Change ℕ)) (tally : Tally) : Type 0 where
  pub changes : IsPermutation (flat_map change_in answers) (map change_kept tally.changes.entries)
  pub names : (name : RunName) → has_run_name (names_in [] answers) name ≡ is_some (get key_cmp tally.changes (key_of name))
  pub reasons : tally.ignored ≡ counts answers
