-- What the header lines of a request say (RFC 9110, sections 5.1 to 5.6, and RFC 9112, sections 6 and 9).
use Rattle.std.specs.Prelude.{◌≡◌, ℕ, Bool, true, false, Result, Ok, Err, ◌&&◌, List, [], ◌∷◌, map, length, Option, Some, None, if◌then◌else◌, ◌==◌, nat_le, codes, bytes_eq}
use Rattle.std.specs.List.{list_all, list_any, slice_split}
use Rattle.std.specs.Char.{is_ascii_digit, to_ascii_lowercase}
use Rattle.std.specs.Str.Parse.{digits_value}
use Rattle.httparse.specs.Ascii.{comma}
use Rattle.httparse.specs.Grammar.{trim_ows}
use Rattle.http_read.specs.declared.request.HeadFault.{HeadFault}
use Rattle.http_read.specs.declared.request.HeadFault.TheVariants as fault

-- a name and a value
abbrev pub Line : Type 0
Line = List ℕ × List ℕ

-- the same text, without regard to ASCII case (RFC 9110, section 5.1, of names; section 7.6.1 of `close`)
unfoldable pub is_same : List ℕ → List ℕ → Bool
is_same a b = bytes_eq (map to_ascii_lowercase a) (map to_ascii_lowercase b)

-- the line has the name
abbrev pub is_named : List ℕ → Line → Bool
is_named name line = is_same line.0 name

-- some line has the name
abbrev pub has_line : List ℕ → List Line → Bool
has_line name lines = list_any (is_named name) lines

-- the values of the lines with the name, in order
abbrev pub values_of : List ℕ → List Line → List (List ℕ)
values_of name [] = []
values_of name (line ∷ lines) = if is_named name line then line.1 ∷ values_of name lines else values_of name lines

-- 1 to 18 digits; that there are no more is this project's own
unfoldable pub is_number : List ℕ → Bool
is_number text = nat_le 1 (length text) && (nat_le (length text) 18 && list_all is_ascii_digit text)

-- one of the parts between commas is `close` (RFC 9110, section 7.6.1, and RFC 9112, section 9.6)
unfoldable pub lists_close : List ℕ → Bool
lists_close value = list_any (λ part. is_same (trim_ows part) (codes "close")) (slice_split (λ b. b == comma) value)

-- a `Connection` line lists `close`
abbrev pub asks_to_close : List Line → Bool
asks_to_close lines = list_any (λ line. is_named (codes "connection") line && lists_close line.1) lines

-- two lengths, or one that is no number
abbrev pub IsBadLength : List (List ℕ) → Type 0
IsBadLength [] = ⊥
IsBadLength (value ∷ []) = is_number value ≡ false
IsBadLength (value ∷ other ∷ values) = Unit {0}

-- what reading the values of the lines `Content-Length` gives
abbrev pub LengthOf : List (List ℕ) → Result (Option ℕ) HeadFault → Type 0
LengthOf values (Ok None) = values ≡ []
LengthOf values (Ok (Some n)) = (value : List ℕ) × (values ≡ value ∷ []) × (is_number value ≡ true) × (n ≡ digits_value 10 value)
LengthOf values (Err fault.Head) = ⊥
LengthOf values (Err fault.Headers) = ⊥
LengthOf values (Err fault.Coding) = ⊥
LengthOf values (Err fault.Length) = IsBadLength values
LengthOf values (Err fault.Large) = ⊥
LengthOf values (Err fault.NoLength) = ⊥
