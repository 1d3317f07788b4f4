-- The rule of the published cell, and what each step does to what its reader or its writer knows.
use Rattle.std.specs.Prelude.{◌≡◌, ℕ, ◌+◌, List, Option, Some, None, IfSome, fold}
use Rattle.std.specs.Arc.{arc_value}
use Rattle.std.specs.declared.snapshot.Snapshot.{Snapshot as Ghost}
use mathlib.Core.Option.{some}
use mathlib.Core.List.{IsPrefix}
use lib.ListN.{get_elem?}
use Rattle.logbook.specs.Pages.{Book}
use Rattle.logbook.specs.declared.tokens.Seen.{Seen}
use Rattle.otp_model.specs.declared.message.Commit.{Commit}
use Rattle.otp_model.specs.declared.timetable.Feed.{Feed}
use Rattle.commit_history.specs.Entries.{IsEntry}
use Rattle.commit_history.specs.declared.cell.CellOf.{CellOf}
use Rattle.commit_history.specs.declared.cell.EntryOf.{EntryOf}
use Rattle.commit_history.specs.declared.log.Growing.{Growing}
use Rattle.commit_history.specs.declared.rule.HistoryName.{HistoryName}
use Rattle.commit_history.specs.declared.rule.Knowledge.{Knowledge}

-- the published entry, with a feed that has no bytes
abbrev pub Entry : Type 0
Entry = EntryOf (Ghost (Ghost Feed))

-- the published cell
abbrev pub Cell : Type 0
Cell = CellOf Entry (Seen Commit ℕ Growing)

-- the name of the history of a feed in a book
abbrev pub name_with : Feed → Book → HistoryName
name_with feed book = record { feed = feed; number = book.number; log_name = book.log_name; cells_name = book.cells_name }

abbrev pub knowing : Option HistoryName → ℕ → Knowledge
knowing name entered = record { name = name; entered = entered }

abbrev pub nothing : Knowledge
nothing = knowing None 0

abbrev pub feed_of : Cell → Feed
feed_of cell = (arc_value cell.entry).feed.value.value

abbrev pub history_of : Cell → List Commit
history_of cell = cell.seen.log

abbrev pub name_of : Cell → HistoryName
name_of cell = name_with (feed_of cell) cell.seen.book

-- its number and its snapshot are those of its feed and its history
abbrev pub IsLegal : Cell → Type 0
IsLegal cell = IsEntry (feed_of cell) (history_of cell) (arc_value cell.entry).number (arc_value (arc_value cell.entry).snapshot)

-- who knows of a history knows of the cell's
abbrev pub Fits : Cell → Knowledge → Type 0
Fits cell knowledge = IfSome knowledge.name (λ name. name ≡ name_of cell)

-- the cell is legal, and what each seat knows fits it
abbrev pub IsKept : Cell → List Knowledge → Type 0
IsKept cell seats = IsLegal cell × ((seat : ℕ) (knowledge : Knowledge) → get_elem? seats seat ≡ some knowledge → Fits cell knowledge)

-- the reader has entered once more, and found what is legal and of the history that it knows of
abbrev pub EntersAt : Knowledge → Cell → Cell → Knowledge → Type 0
EntersAt before cell shown now = IsLegal cell × Fits cell before × (now ≡ knowing before.name (before.entered + 1))

-- the writer then knows of the history of the cell that it shows
abbrev pub PublishesAt : Knowledge → Cell → Cell → Knowledge → Type 0
PublishesAt before cell shown now = now ≡ knowing (Some (name_of shown)) before.entered

-- what a new reader knows once it was told what another knows
abbrev pub informed : Knowledge → Knowledge → Knowledge
informed before told = knowing told.name 0

-- one cell has the entry and the history of the other
abbrev pub IsLike : Cell → Cell → Type 0
IsLike cell other = (arc_value cell.entry ≡ arc_value other.entry) × (cell.seen ≡ other.seen)

-- a cell may be shown after another
abbrev pub MayFollow : Cell → Cell → Type 0
MayFollow before next = IsLegal next × (name_of next ≡ name_of before) × IsPrefix (history_of before) (history_of next)

-- the last of the cells, or this one where there is none
abbrev pub next_of : Cell → List Cell → Cell
next_of cell cells = fold (λ _ next. next) cell cells
