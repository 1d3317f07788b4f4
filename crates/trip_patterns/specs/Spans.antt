-- Spans: when lanes depart.
use Rattle.std.specs.Prelude.{ℤ, ◌≤ℤ◌, List}
use Rattle.std.specs.List.{Contains}
use Rattle.otp_model.specs.Ranges.{IsTimely}
use Rattle.otp_model.specs.declared.timetable.Call.{Call}
use Rattle.otp_model.specs.declared.timetable.Run.{Run}
use Rattle.trip_patterns.specs.declared.span.Span.{Span}
use Rattle.trip_patterns.specs.Lanes.{LaneOf}

-- the time is within the span
pub record IsWithinSpan (span : Span) (time : ℤ) : Type 0 where
  pub first : span.first ≤ℤ time
  pub last : time ≤ℤ span.last

-- no timely run departs from any of its calls before the span or after it
pub record IsSpan (runs : List Run) (span : Span) : Type 0 where
  pub each : (run : Run) (call : Call) → Contains runs run → IsTimely run → Contains run.calls call → IsWithinSpan span call.departure

-- the same of each of the lanes
pub record IsSpanOf (lanes : List LaneOf) (span : Span) : Type 0 where
  pub each : (lane : LaneOf) → Contains lanes lane → IsSpan lane.runs span
