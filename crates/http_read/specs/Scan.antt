-- How far a search for the mark has come.
use Rattle.std.specs.Prelude.{◌≡◌, ℕ, ◌+◌, ◌-◌, ◌<◌, ◌≤◌, true, false, List, ◌++◌, length, take}
use Rattle.std.specs.List.{concat}
use Rattle.http_read.specs.Lines.{whole_lines, is_empty_at, HasNoMark, IsSpent, HasHead}
use Rattle.http_read.specs.declared.scan.Scan.{Scan}
use Rattle.http_read.specs.declared.scan.Seen.{Seen}
use Rattle.http_read.specs.declared.scan.Seen.TheVariants as seen

-- the scan has looked at these bytes, and no mark is among them
pub record IsScan (bytes : List ℕ) (s : Scan) : Type 0 where
  pub size : s.at ≡ length bytes
  pub feeds : s.feeds ≡ length (whole_lines bytes)
  pub line : s.line ≡ length (concat (whole_lines bytes))
  pub within : s.line ≤ s.at
  pub blank : (i : ℕ) → i < s.blank → is_empty_at bytes i ≡ true
  pub idle : s.begun ≡ false → s.blank ≡ s.feeds
  pub first : s.begun ≡ true → (s.blank < s.feeds) × (is_empty_at bytes s.blank ≡ false)
  pub later : s.begun ≡ true → (i : ℕ) → s.blank < i → i < s.feeds → is_empty_at bytes i ≡ false

-- the mark ends with the last byte that was looked at
pub record IsAtMark (bytes : List ℕ) (s : Scan) : Type 0 where
  pub head : HasHead bytes bytes (s.feeds - (s.blank + 2))
  pub order : s.blank + 2 ≤ s.feeds

-- what a search over these bytes found
abbrev pub Sees : List ℕ → Scan → Seen → Type 0
Sees bytes s (seen.Mark size lines) = (size ≤ length bytes) × HasHead bytes (take size bytes) lines
Sees bytes s seen.Spent = ((more : List ℕ) → HasNoMark (bytes ++ more)) × IsSpent bytes
Sees bytes s seen.More = IsScan bytes s × (length bytes < 16384) × HasNoMark bytes × (IsSpent bytes → ⊥)
