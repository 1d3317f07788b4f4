-- The calls of the run of this crate's tests.
use Rattle.std.specs.Prelude.{ℕ, pos, true}
use Rattle.otp_model.specs.declared.timetable.Call.{Call}

abbrev pub call_of : ℕ → ℕ → Call
call_of seq time = record { stop = 0; seq = seq; arrival = pos time; departure = pos time; board = true; alight = true }
