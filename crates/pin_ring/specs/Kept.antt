-- What contracts see of kept views.
use Rattle.std.specs.Prelude.{◌<◌, List, length, Option, Some, None, IsSomeAnd}
use Rattle.std.specs.Arc.{arc_value}
use Rattle.std.specs.Borrow.{Bor}
use Rattle.std.specs.List.{AllPairs}
use mathlib.Core.List.{IsPrefix}
use Rattle.otp_model.specs.Core.{Extends, History, first_known}
use Rattle.otp_model.specs.declared.timetable.Feed.{Feed}
use Rattle.commit_history.specs.Entries.{IsEntry}
use Rattle.commit_history.specs.declared.pass.View.{View}

-- the feed of the views, and the histories that they stand for, in the order in which they were kept
pub record KeptView : Type 0 where
  pub feed : Feed
  pub kept : List History

abbrev pub Begins : History → History → Type 0
Begins earlier later = IsPrefix earlier later × (length earlier < length later)

-- each history is a proper beginning of each behind it
abbrev pub AreRising : List History → Type 0
AreRising kept = AllPairs Begins kept

-- the view stands for the history that is known first, which begins with each that is kept
abbrev pub IsTaken : Feed → List History → List History → View → Type 0
IsTaken feed known kept view = IsSomeAnd (first_known known) (λ history. IsEntry feed history view.number (arc_value view.snapshot) × Extends history kept)

-- the view stands for the history, and there is none where there is no history
abbrev pub IsViewOf : Feed → Option History → Option (Bor View) → Type 0
IsViewOf feed (Some history) (Some view) = IsEntry feed history view.now.number (arc_value view.now.snapshot)
IsViewOf feed None None = Unit {0}
IsViewOf feed _ _ = ⊥
