-- What an entering step tells of a pass.
use Rattle.std.proofs.Common.{◌≡◌, ℕ, ◌+◌, List, [], ◌∷◌, sym, ap, subst}
use Rattle.std.specs.Prelude.{Option, Some, IfSome, IfOk}
use Rattle.std.specs.Arc.{arc_value}
use Rattle.logbook.specs.Pages.{Book}
use Rattle.otp_model.specs.declared.message.Commit.{Commit}
use Rattle.otp_model.specs.declared.timetable.Feed.{Feed}
use Rattle.commit_history.specs.Entries.{IsSnapshotOf}
use Rattle.commit_history.specs.Rules.{knowing, name_with}
use Rattle.commit_history.specs.Takes.{Takes}
use Rattle.commit_history.specs.Views.{PassView, WriterView}
use Rattle.commit_history.specs.declared.entering.Found.{Found}
use Rattle.commit_history.specs.declared.rule.HistoryName.{HistoryName}
use Rattle.commit_history.specs.declared.rule.Knowledge.{Knowledge}

-- a name says which book it is
book_with : (feed other_feed : Feed) (book other : Book) → name_with feed book ≡ name_with other_feed other → book ≡ other
book_with feed other_feed book other e i = record { number = (e i).number; log_name = (e i).log_name; cells_name = (e i).cells_name }

-- what was found is of the book and the feed that the reader knows of
pub found_of : (feed : Feed) (book : Book) (before now : Knowledge) (found : Found) → before.name ≡ Some (name_with feed book) → Takes before now found
    → (book ≡ found.seen.book) × IfOk found.snapshot (λ snapshot. IsSnapshotOf (arc_value snapshot) feed found.seen.log)
found_of feed book before now found named takes =
    let IsOf : Option HistoryName → Type 0 = λ known. IfSome known (λ name. (f : Feed) × (name ≡ name_with f found.seen.book) × IfOk found.snapshot (λ snapshot. IsSnapshotOf (arc_value snapshot) f found.seen.log)) in
    let is : IsOf (Some (name_with feed book)) = subst IsOf named takes.3 in (
      book_with feed is.0 book found.seen.book is.1,
      subst (λ (f : Feed). IfOk found.snapshot (λ snapshot. IsSnapshotOf (arc_value snapshot) f found.seen.log)) (sym (ap (λ name. name.feed) is.1)) is.2,
    )

abbrev pub pass_of : WriterView → List (List Commit) → Knowledge → ℕ → PassView
pass_of told known knowledge turned = record { feed = told.feed; cell = told.cell; known = known; entered = knowledge.entered; turned = turned }

-- of what is known, one history is left
pub entered_at : (told now : WriterView) (before after : List (List Commit)) (history : List Commit) (old new : Knowledge) (turned turned_now : ℕ)
    → now.feed ≡ told.feed → now.cell ≡ told.cell → after ≡ history ∷ [] → turned_now ≡ turned → new ≡ knowing old.name (old.entered + 1)
    → pass_of now after new turned_now ≡ record (pass_of told before old turned) { known = history ∷ []; entered = old.entered + 1 }
entered_at told now before after history old new turned turned_now f b k t e i =
    record { feed = f i; cell = b i; known = k i; entered = (e i).entered; turned = t i }
