-- Times of day as texts, HH:MM:SS (GTFS Schedule reference, "Time"): hours have at least two digits, and more
-- where they need them.
use Rattle.std.specs.Prelude.{ℕ, ◌/◌, ◌%◌, List, ◌++◌, nat_lt, codes, decimal, if◌then◌else◌}
use Rattle.plan_json.specs.Date.{two_digits}

abbrev pub hours_text : ℕ → List ℕ
hours_text hours = if nat_lt hours 10 then codes "0" ++ decimal hours else decimal hours

-- the text of so many seconds
abbrev pub clock_text : ℕ → List ℕ
clock_text seconds = hours_text (seconds / 3600) ++ (codes ":" ++ (two_digits (seconds / 60 % 60) ++ (codes ":" ++ two_digits (seconds % 60))))
