-- The text of a cursor, v1-COMMIT-DEPARTURE-ARRIVAL-RIDES-COST: decimal numbers without leading zeros, RIDES of
-- 1 to 9 digits and each other number of 1 to 18. The form is this project's own.
use Rattle.std.specs.Prelude.{◌≡◌, ℕ, ◌^◌, ◌<◌, ◌==◌, ◌≤ℤ◌, ◌<ℤ◌, ℤ, pos, Bool, false, List, [], ◌∷◌, ◌++◌, length, Option, Some, None, nat_lt, codes, decimal, if◌then◌else◌}
use Rattle.std.specs.Fmt.{signed_decimal}
use Rattle.std.specs.Str.{bytes_eq}
use Rattle.otp_base.specs.Cut.{cut}
use Rattle.otp_base.specs.Number.{number_of}
use Rattle.otp_base.specs.Optionals.{◌>>=◌}
use Rattle.otp_model.specs.declared.journey.Cursor.{Cursor}

-- a time that is a number of at most 18 digits
pub record FitsTime (t : ℤ) : Type 0 where
  pub low : pos 0 ≤ℤ t
  pub high : t <ℤ pos (10 ^ 18)

-- a cursor whose numbers have the digits that its text may have
pub record FitsText (c : Cursor) : Type 0 where
  pub commit : c.commit < 10 ^ 18
  pub departure : FitsTime c.value.departure
  pub arrival : FitsTime c.value.arrival
  pub rides : c.value.rides < 10 ^ 9
  pub cost : c.value.cost < 10 ^ 18

-- the five numbers, with a hyphen between each two of them
abbrev pub numbers_text : ℕ → ℤ → ℤ → ℕ → ℕ → List ℕ
numbers_text commit departure arrival rides cost =
    decimal commit ++ (codes "-" ++ (signed_decimal departure ++ (codes "-" ++ (signed_decimal arrival ++ (codes "-" ++ (decimal rides ++ (codes "-" ++ decimal cost)))))))

abbrev pub cursor_text_of : Cursor → List ℕ
cursor_text_of c = codes "v1-" ++ numbers_text c.commit c.value.departure c.value.arrival c.value.rides c.value.cost

-- `b'-'`
abbrev pub hyphen : ℕ
hyphen = 45

-- whether a zero stands before another byte
abbrev pub has_leading_zero : List ℕ → Bool
has_leading_zero [] = false
has_leading_zero (b ∷ []) = false
has_leading_zero (b ∷ c ∷ rest) = b == 48

-- the number that 1 to `most` digits without a leading zero spell
unfoldable pub plain_number_of : ℕ → List ℕ → Option ℕ
plain_number_of most text =
    if nat_lt most (length text) then None else (if has_leading_zero text then None else number_of text)

-- such a number before the first hyphen, and what stands behind it
unfoldable pub number_then : ℕ → List ℕ → Option (ℕ × List ℕ)
number_then most text = do
  parts ← cut hyphen text
  number ← plain_number_of most parts.0
  Some (number, parts.1)

unfoldable pub numbers_in : List ℕ → Option Cursor
numbers_in text = do
  commit ← number_then 18 text
  departure ← number_then 18 commit.1
  arrival ← number_then 18 departure.1
  rides ← number_then 9 arrival.1
  cost ← plain_number_of 18 rides.1
  Some (record { commit = commit.0; value = record { departure = pos departure.0; arrival = pos arrival.0; rides = rides.0; cost = cost } })

-- the cursor that a text spells, if it spells one
unfoldable pub cursor_of : List ℕ → Option Cursor
cursor_of text = do
  parts ← cut hyphen text
  if bytes_eq parts.0 (codes "v1") then numbers_in parts.1 else None

-- an answer for a text: its cursor, or none exactly where no cursor has the text
abbrev pub IsCursorOf : List ℕ → Option Cursor → Type 0
IsCursorOf text None = (c : Cursor) → FitsText c → text ≡ cursor_text_of c → ⊥
IsCursorOf text (Some c) = FitsText c × (text ≡ cursor_text_of c)
