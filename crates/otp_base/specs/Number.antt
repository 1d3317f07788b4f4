-- Numbers as words of a command and parameters of a query spell them.
use Rattle.std.specs.Prelude.{ℕ, List, length, Option, Some, None, nat_le, ◌&&◌, if◌then◌else◌}
use Rattle.std.specs.Char.{is_ascii_digit}
use Rattle.std.specs.List.{list_all}
use Rattle.std.specs.Str.Parse.{digits_value}

-- 1 to 18 decimal digits
abbrev pub number_of : List ℕ → Option ℕ
number_of text =
    if nat_le 1 (length text) && (nat_le (length text) 18 && list_all is_ascii_digit text) then Some (digits_value 10 text) else None

abbrev pub within : ℕ → ℕ → Option ℕ → Option ℕ
within low high None = None
within low high (Some n) = if nat_le low n && nat_le n high then Some n else None

-- the same where the number is in a range, its ends included
abbrev pub number_in : ℕ → ℕ → List ℕ → Option ℕ
number_in low high text = within low high (number_of text)
