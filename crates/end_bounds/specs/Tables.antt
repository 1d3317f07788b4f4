-- Tables, row by row, of so many columns.
use Rattle.std.specs.Prelude.{◌≡◌, ◌≢◌, ℕ, ◌+◌, ◌*◌, ◌<◌, List, length, take, drop}
use Rattle.end_bounds.specs.Scans.{far, number_at}

-- the numbers of a row, none beyond the table
abbrev pub row_of : (columns : ℕ) (table : List ℕ) (row : ℕ) → List ℕ
row_of columns table row = take columns (drop (row * columns) table)

-- the column has these numbers, and nothing is reached beyond them
pub record IsColumn (columns : ℕ) (table : List ℕ) (column : ℕ) (numbers : List ℕ) : Type 0 where
  pub each : (row : ℕ) → number_at table (row * columns + column) ≡ number_at numbers row

-- the other columns are what they were
pub record AreOthersKept (columns column : ℕ) (old new : List ℕ) : Type 0 where
  pub each : (row other : ℕ) → other < columns → other ≢ column → number_at new (row * columns + other) ≡ number_at old (row * columns + other)

-- what was done when the column has its first so many numbers
pub record IsWriting (columns column count : ℕ) (numbers old new : List ℕ) : Type 0 where
  pub size : length new ≡ length old
  pub written : (row : ℕ) → row < count → number_at new (row * columns + column) ≡ number_at numbers row
  pub kept : AreOthersKept columns column old new

-- nothing is reached
abbrev pub IsBlank : List ℕ → Type 0
IsBlank table = (n : ℕ) → number_at table n ≡ far
