-- The numbers that are drawn: a linear congruential generator modulo 2^64 with Knuth's multiplier of MMIX (The Art of
-- Computer Programming, volume 2, 3.3.4), of whose state the low 33 bits are left out.
use Rattle.std.specs.Prelude.{ℕ, zero, suc, ◌+◌, ◌*◌, ◌/◌, ◌%◌, ◌^◌}

-- the state of the stream of a part before its first draw
abbrev pub start_of : ℕ → ℕ → ℕ
start_of seed part = ((seed + 1) * 1000003 + part) % 2 ^ 64

abbrev pub next : ℕ → ℕ
next state = (state * 6364136223846793005 + 1442695040888963407) % 2 ^ 64

-- the state after so many draws
unfoldable pub state_after : ℕ → ℕ → ℕ
state_after start zero = start
state_after start (suc count) = next (state_after start count)

-- what a state gives below a number
abbrev pub drawn : ℕ → ℕ → ℕ
drawn state below = state / 2 ^ 33 % below

-- the draw of a part's stream at a place, counted from 0, below a number
abbrev pub draw : ℕ → ℕ → ℕ → ℕ → ℕ
draw seed part place below = drawn (state_after (start_of seed part) (suc place)) below
