-- What a commit may count.
use Rattle.std.specs.Prelude.{ℕ, ◌+◌, ◌≤◌, List}
use Rattle.otp_model.specs.Patterns.{touched}
use Rattle.otp_model.specs.Schedule.{AreDifferences}
use Rattle.otp_model.specs.declared.change.Change.{Change}
use Rattle.otp_model.specs.declared.timetable.Run.{Run}

-- no more steps than the differences of two schedules touch calls
abbrev pub IsCostWithin : List Run → List Run → ℕ → ℕ → Type 0
IsCostWithin before now old new = (changes : List Change) → AreDifferences before now changes → new ≤ old + touched before now changes
