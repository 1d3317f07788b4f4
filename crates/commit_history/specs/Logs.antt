-- The rule of the log, and what a step on it tells.
use Rattle.std.specs.Prelude.{ℕ, ◌≡◌, ◌==◌, true, List, [], ◌∷◌, ◌++◌, length, MatchBool}
use Rattle.logbook.specs.Pages.{Book, Cell, Named, Step, View}
use Rattle.otp_model.specs.declared.message.Commit.{Commit}

-- the first word is the length of the log. A book has two words, of which this one leaves the second at 0
abbrev pub HoldsLength : List Cell → List Commit → Type 0
HoldsLength cells log = cells ≡ (length log, true) ∷ (0, true) ∷ []

-- the word of a book that holds the length
abbrev pub head_of : Book → Named
head_of book = record { tracked = true; key = 0; book = book }

-- the commit was added to all that had been seen; or the log was longer, and was seen
abbrev pub Adds : Step Commit → View Commit ℕ → ℕ → View Commit ℕ → Type 0
Adds s v found w = MatchBool (found == s.old) (w.0 ≡ v.0 ++ s.ask ∷ []) (length w.0 ≡ found)
