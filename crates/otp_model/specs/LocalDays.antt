-- The day that the clocks of a zone show at an instant, in seconds since 1970-01-01 00:00 UTC.
use Rattle.std.specs.Prelude.{ℕ, ℤ, pos, ◌+ℤ◌, nat_le, Option, None, Some, if◌then◌else◌}
use Rattle.std.specs.Int.{int_div_euclid}
use Rattle.jiff_core.specs.Timestamp.{nanos_of_seconds}
use Rattle.jiff.specs.ZoneView.{plain_zone}
use Rattle.jiff_tz.specs.Zone.{offset_at}
use Rattle.otp_model.specs.declared.timetable.Zone.{Zone}

-- none where the instant is above 253,402,000,000, in the year 9999
abbrev pub local_day_of : Zone → ℕ → Option ℤ
local_day_of zone instant =
    if nat_le instant 253402000000
    then Some (int_div_euclid (pos instant +ℤ offset_at (plain_zone zone.rule) (nanos_of_seconds (pos instant))) (pos 86400))
    else None
