-- The limits of this project (docs/LIMITS.md tells each with what comes beyond it). Times are seconds, lengths
-- millimetres, and scales thousandths of a millimetre for a millionth of a degree.
use Rattle.std.specs.Prelude.{ℕ, ◌^◌}

-- one file of a feed, in bytes
abbrev pub most_file_bytes : ℕ
most_file_bytes = 536870912

-- the records of one file
abbrev pub most_records : ℕ
most_records = 2 ^ 29

abbrev pub most_stops : ℕ
most_stops = 1000000

abbrev pub most_trips : ℕ
most_trips = 10000000

-- the calls of all runs in the horizon
abbrev pub most_calls : ℕ
most_calls = 40000000

abbrev pub most_edges : ℕ
most_edges = 100000000

-- times of day stand below it: they are at most 999:59:59
abbrev pub clock_end : ℕ
clock_end = 3600000

-- the last day of the year 2999, and of 2998
abbrev pub last_day : ℕ
last_day = 376199

abbrev pub last_first_day : ℕ
last_first_day = 375834

abbrev pub most_days : ℕ
most_days = 31

-- real-time feeds
abbrev pub most_feeds : ℕ
most_feeds = 16

-- messages of one `plan`
abbrev pub most_messages : ℕ
most_messages = 1000

-- one message, in bytes
abbrev pub most_message_bytes : ℕ
most_message_bytes = 16777216

abbrev pub most_reach : ℕ
most_reach = 5000000

abbrev pub most_scale : ℕ
most_scale = 111195

-- a coordinate of the plane, either way
abbrev pub most_plane : ℕ
most_plane = 2 ^ 40

-- millionths of a degree, either way
abbrev pub most_latitude : ℕ
most_latitude = 90000000

abbrev pub most_longitude : ℕ
most_longitude = 180000000

-- millimetres a second on foot
abbrev pub least_speed : ℕ
least_speed = 100

abbrev pub most_speed : ℕ
most_speed = 10000

abbrev pub most_rides : ℕ
most_rides = 8

-- points for a second on foot, and for a boarding
abbrev pub least_walk_points : ℕ
least_walk_points = 100

abbrev pub most_walk_points : ℕ
most_walk_points = 2000

abbrev pub most_board_points : ℕ
most_board_points = 1000000

-- a time that is searched, either way
abbrev pub most_time : ℕ
most_time = 2 ^ 42
