-- Days of service as texts, "Date" of the GTFS Schedule reference, on the Gregorian calendar of ISO 8601.
use Rattle.std.specs.Prelude.{ℕ, ◌+◌, ◌-◌, ◌*◌, List, [], ◌∷◌, Option, Some, None, Bool, nat_le, ◌&&◌, ℤ, pos, if◌then◌else◌}
use Rattle.jiff_core.specs.Calendar.{days_from_civil, days_in_month}

abbrev pub is_digit_byte : ℕ → Bool
is_digit_byte b = nat_le 48 b && nat_le b 57

-- the number that two digits spell
abbrev pub number_of_two : ℕ → ℕ → Option ℕ
number_of_two a b = if is_digit_byte a && is_digit_byte b then Some (10 * (a - 48) + (b - 48)) else None

-- whether the calendar has the date, from the year 1 on
abbrev pub is_date : ℕ → ℕ → ℕ → Bool
is_date year month day =
    nat_le 1 year && (nat_le 1 month && nat_le month 12 && (nat_le 1 day && nat_le day (days_in_month (pos year) month)))

-- the number of a date's day: how many days it stands after 1970-01-01
abbrev pub day_in : ℕ → ℕ → ℕ → Option ℤ
day_in year month day = if is_date year month day then Some (days_from_civil (pos year) month day) else None

abbrev pub day_in_parts : Option ℕ → Option ℕ → Option ℕ → Option ℕ → Option ℤ
day_in_parts (Some century) (Some year) (Some month) (Some day) = day_in (100 * century + year) month day
day_in_parts _ _ _ _ = None

-- the day of a text of eight digits, YYYYMMDD
unfoldable pub day_of : List ℕ → Option ℤ
day_of (a ∷ b ∷ c ∷ d ∷ e ∷ f ∷ g ∷ h ∷ []) = day_in_parts (number_of_two a b) (number_of_two c d) (number_of_two e f) (number_of_two g h)
day_of text = None
