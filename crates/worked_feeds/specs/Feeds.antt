-- A sample feed's files with changes: a change stands in place of the file of its name, and one of another name is a
-- file more; a file without a text isn't there.
use Rattle.std.specs.Prelude.{ℕ, List, [], ◌∷◌, ◌++◌, length, Bool, ◌==◌, if◌then◌else◌}
use Rattle.std.specs.List.{flat_map, list_any}
use Rattle.std.specs.Str.{bytes_eq}
use Rattle.otp_base.specs.declared.folder.FileEntry.{FileEntry}
use Rattle.worked_feeds.specs.declared.feeds.SampleFile.{SampleFile}

abbrev pub entry_with : List ℕ → List ℕ → List FileEntry
entry_with name text = if length text == 0 then [] else (record { name = name; bytes = text } ∷ [])

-- the file as a folder holds it, if it is there
abbrev pub entry_of : SampleFile → List FileEntry
entry_of file = entry_with file.name.now file.text.now

abbrev pub is_named : List SampleFile → List ℕ → Bool
is_named files name = list_any (λ (file : SampleFile). bytes_eq file.name.now name) files

-- the file, unless a change stands in its place
abbrev pub entry_kept : List SampleFile → SampleFile → List FileEntry
entry_kept changes file = if is_named changes file.name.now then [] else entry_of file

abbrev pub files_of : List SampleFile → List SampleFile → List FileEntry
files_of feed changes = flat_map (entry_kept changes) feed ++ flat_map entry_of changes
