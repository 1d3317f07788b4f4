-- Calls that are moved.
use Rattle.std.specs.Prelude.{ℤ, ◌^◌}
use Rattle.otp_model.specs.Moves.{Moved}
use Rattle.otp_model.specs.Rows.{IsWithin}
use Rattle.otp_model.specs.declared.timetable.Call.{Call}
use Rattle.rt_resolve.specs.declared.delay.Delay.{Delay}
use Rattle.rt_resolve.specs.declared.moving.Moved.{Moved as MovedCall}

abbrev pub seconds_of : Delay → ℤ
seconds_of delay = delay.seconds

abbrev pub moved_of : MovedCall → Moved
moved_of moved = record { call = moved.call; delay = moved.delay.seconds }

-- its times are within 2 ^ 36
pub record IsMovable (call : Call) : Type 0 where
  pub arrival : IsWithin (2 ^ 36) call.arrival
  pub departure : IsWithin (2 ^ 36) call.departure
