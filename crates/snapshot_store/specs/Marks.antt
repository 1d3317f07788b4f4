-- Marks for the trips of changes.
use Rattle.std.specs.Prelude.{◌≡◌, ℕ, ◌%◌, List, length, Bool, true, false, slice_index_or}
use Rattle.std.specs.List.{All, AllPairs}
use Rattle.otp_model.specs.Names.{number_of}
use Rattle.otp_model.specs.declared.change.Change.{Change}
use Rattle.otp_model.specs.declared.run_name.RunName.{RunName}
use Rattle.snapshot_store.specs.Changing.{IsChangeBelow}

-- the place of a name's mark, which names of other trips may share
abbrev pub mark_of : RunName → ℕ
mark_of name = number_of name.trip % 65536

abbrev pub IsMarked : List Bool → Change → Type 0
IsMarked marks change = slice_index_or marks (mark_of change.name) false ≡ true

-- of each of the changes the mark is set
pub record AreMarked (changes : List Change) (marks : List Bool) : Type 0 where
  pub count : length marks ≡ 65536
  pub set : All (IsMarked marks) changes

-- changes by rising name, with their marks
pub record IsKept (changes : List Change) (marks : List Bool) : Type 0 where
  pub rise : AllPairs IsChangeBelow changes
  pub marked : AreMarked changes marks
