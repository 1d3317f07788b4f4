-- The calls of a run that come one after the other.
use Rattle.std.specs.Prelude.{ℤ, List, ◌++◌, Option, Some, None}
use Rattle.otp_model.specs.Moves.{raised, raised_above}
use Rattle.otp_model.specs.declared.timetable.Call.{Call}
use Rattle.rt_resolve.specs.declared.course.Course.{Course}

-- calls that come behind a time, or first
abbrev pub raised_behind : Option ℤ → List Call → List Call
raised_behind None calls = raised calls
raised_behind (Some time) calls = raised_above time calls

-- the calls that a course has once these come behind its own
abbrev pub with_calls : Course → List Call → List Call
with_calls course calls = course.calls ++ raised_behind course.latest calls
