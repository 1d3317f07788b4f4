-- Texts that files are made of.
use Rattle.std.specs.Prelude.{ℕ, zero, suc, ◌/◌, ◌%◌, List, [], ◌++◌, codes, decimal}

-- the texts of 0, 1 and so on, so many, one behind the other
unfoldable pub joined : (ℕ → List ℕ) → ℕ → List ℕ
joined text zero = []
joined text (suc count) = joined text count ++ text count

-- a number below 100
abbrev pub two_digits : ℕ → List ℕ
two_digits n = decimal (n / 10) ++ decimal (n % 10)

-- a part of a million below one whole, as `0.` and six digits
abbrev pub millionths : ℕ → List ℕ
millionths n =
    codes "0." ++ (decimal (n / 100000 % 10) ++ (decimal (n / 10000 % 10) ++ (decimal (n / 1000 % 10) ++ (decimal (n / 100 % 10) ++ (decimal (n / 10 % 10) ++ decimal (n % 10))))))

-- seconds of a day as `HH:MM:SS`
abbrev pub clock : ℕ → List ℕ
clock time = two_digits (time / 3600) ++ (codes ":" ++ (two_digits (time / 60 % 60) ++ (codes ":" ++ two_digits (time % 60))))

-- the id of a trip of a line
abbrev pub trip_id : ℕ → ℕ → List ℕ
trip_id line trip = codes "T" ++ (decimal line ++ (codes "-" ++ decimal trip))
