-- Days as texts, YYYYMMDD (GTFS Schedule reference, "Date"), on the Gregorian calendar of ISO 8601.
use Rattle.std.specs.Prelude.{ℕ, ◌+◌, ◌-◌, ◌/◌, ◌%◌, ℤ, ◌-ℤ◌, unsigned_abs, nat_le, List, [], ◌∷◌, ◌++◌}
use Rattle.std.specs.List.{prefix_len, range_with_len}
use Rattle.jiff_core.specs.Calendar.{days_from_civil, days_of_months}
use Rattle.jiff_tz.specs.Year.{year_of_day}

-- the two digits of a number below 100
abbrev pub two_digits : ℕ → List ℕ
two_digits n = (48 + n / 10) ∷ (48 + n % 10) ∷ []

-- the text of a date of the years 0 to 9999
abbrev pub digits_of : ℕ → ℕ → ℕ → List ℕ
digits_of year month day = two_digits (year / 100) ++ (two_digits (year % 100) ++ (two_digits month ++ two_digits day))

-- how many days of its year stand before a day
abbrev pub days_before : ℤ → ℕ
days_before day = unsigned_abs (day -ℤ days_from_civil (year_of_day day) 1 1)

-- how many months of the year end before a day of it that so many days stand before
abbrev pub months_before : ℤ → ℕ → ℕ
months_before year left = prefix_len (λ (months : ℕ). nat_le (days_of_months year months) left) (range_with_len 1 12)

-- the text of a day number
abbrev pub date_text : ℤ → List ℕ
date_text day =
    let year : ℤ = year_of_day day in
    let months : ℕ = months_before year (days_before day) in
    digits_of (unsigned_abs year) (months + 1) (days_before day - days_of_months year months + 1)
