-- What contracts see of a writer, a pass and a note.
use Rattle.std.specs.Prelude.{◌≡◌, ℕ, ◌+◌, List, [], ◌∷◌, length, max, fold, Option}
use Rattle.atomic_table.specs.declared.shared.Seat.{Seat}
use Rattle.left_right.specs.Sides as sides
use Rattle.left_right.specs.declared.board.Doing.{Doing}
use Rattle.left_right.specs.declared.part.Part.{Part}
use Rattle.logbook.specs.Pages.{Book}
use Rattle.otp_model.specs.Core.{Extends, History}
use Rattle.otp_model.specs.declared.timetable.Feed.{Feed}

-- A writer and a note have the feed, the cell and the published history. The cell goes by the book of its log: what was opened together
-- has one book.
pub record WriterView : Type 0 where
  pub feed : Feed
  pub cell : Book
  pub history : History

-- a pass knows histories, has entered so often, and was handed back so often
pub record PassView : Type 0 where
  pub feed : Feed
  pub cell : Book
  pub known : List History
  pub entered : ℕ
  pub turned : ℕ

-- a pass that knows nothing yet
abbrev pub fresh_pass : WriterView → PassView
fresh_pass writer = record { feed = writer.feed; cell = writer.cell; known = []; entered = 0; turned = 0 }

-- the greatest length of a history, 0 where there is none
abbrev pub longest_in : List History → ℕ
longest_in known = fold (λ most history. max most (length history)) 0 known

-- the pass has entered once more, and knows this history alone, which begins with all that it knew
abbrev pub EnteredAt : PassView → PassView → History → Type 0
EnteredAt old new history = Extends history old.known × (new ≡ record old { known = history ∷ []; entered = old.entered + 1 })

-- what is known at a seat of the published cell
abbrev pub known_by : {T V : Type 0} → Seat (Option (Part T)) (Doing T V) → V
known_by seat = sides.view seat
