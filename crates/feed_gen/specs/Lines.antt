-- The lines of the city: 400 stops in 20 rows of 20, and 60 lines of 100 trips, each of 12 calls.
use Rattle.std.specs.Prelude.{ℕ, zero, suc, ◌+◌, ◌*◌, ◌/◌, ◌%◌, ◌==◌, if◌then◌else◌}
use Rattle.feed_gen.specs.Draws.{draw}

-- the stop in a row and a column, each counted round
abbrev pub stop_at : ℕ → ℕ → ℕ
stop_at row column = 20 * (row % 20) + column % 20

-- two rows or columns on or back
abbrev pub hop : ℕ → ℕ → ℕ
hop stop way =
    if way == 0 then stop_at (stop / 20 + 2) (stop % 20)
    else (if way == 1 then stop_at (stop / 20 + 18) (stop % 20)
    else (if way == 2 then stop_at (stop / 20) (stop % 20 + 2)
    else stop_at (stop / 20) (stop % 20 + 18)))

-- the stop of a line's call, counted from 0, by the first twelve draws of the line
unfoldable pub stop_of : ℕ → ℕ → ℕ → ℕ
stop_of seed line zero = draw seed line 0 400
stop_of seed line (suc call) = hop (stop_of seed line call) (draw seed line (suc call) 4)

-- how many draws of the line are made before those of a trip
abbrev pub before_trip : ℕ → ℕ
before_trip trip = 12 + 12 * trip

-- the time of a trip's call in seconds of the day
unfoldable pub time_of : ℕ → ℕ → ℕ → ℕ → ℕ
time_of seed line trip zero = 18000 + 600 * trip + draw seed line (before_trip trip) 300
time_of seed line trip (suc call) = time_of seed line trip call + (60 + draw seed line (before_trip trip + suc call) 120)
