-- Days on the clocks of a zone: when a day of service starts (GTFS Schedule reference, "Time": noon less 12
-- hours), and the day that the clocks show at an instant. Times are in seconds since 1970-01-01 00:00, of UTC
-- or of the wall clock.
use Rattle.std.specs.Prelude.{◌≡◌, ℕ, ◌-◌, ℤ, pos, ◌+ℤ◌, ◌-ℤ◌, ◌*ℤ◌, nat_le, Option, None, Some, if◌then◌else◌}
use Rattle.std.specs.Int.{int_div_euclid}
use Rattle.jiff_core.specs.Date.{epoch_day}
use Rattle.jiff_core.specs.Time.{IsHms}
use Rattle.jiff_core.specs.Timestamp.{nanos_of_seconds}
use Rattle.jiff_core.specs.declared.Offset.{Offset}
use Rattle.jiff_core.specs.declared.civil.datetime.DateTime.{DateTime}
use Rattle.jiff.specs.ZoneView.{plain_zone}
use Rattle.jiff_tz.specs.Ambiguous.{compatible_offset, instant_of}
use Rattle.jiff_tz.specs.PosixRule.{ambiguous_by, match_some, rule_nanos}
use Rattle.jiff_tz.specs.Tzif.{civil_count_at, is_inside, offsets_in, rule_after, transition_at, type_after}
use Rattle.jiff_tz.specs.Year.{year_of_day}
use Rattle.jiff_tz.specs.Zone.{ambiguous_at, offset_at, utc_offset}
use Rattle.jiff_tz.specs.declared.ambiguous.AmbiguousOffset.{AmbiguousOffset}
use Rattle.jiff_tz.specs.declared.ambiguous.AmbiguousOffset.TheVariants.{Unambiguous}
use Rattle.jiff_tz.specs.declared.posix.Dst.{Dst}
use Rattle.jiff_tz.specs.declared.timezone.TimeZone.{TimeZone}
use Rattle.jiff_tz.specs.declared.timezone.TimeZone.TheVariants.{UTC, Unknown, Fixed, Posix, Tzif}
use Rattle.jiff_tz.specs.declared.tzif.Tzif.{Tzif as Table}
use Rattle.otp_model.specs.declared.timetable.Zone.{Zone}

-- noon of a day, on a wall clock
abbrev pub noon_at : ℤ → ℤ
noon_at day = day *ℤ pos 86400 +ℤ pos 43200

-- The offsets that noon of a day has by a rule: one, or the two round the change that skips or doubles it.
-- The rule's two changes are read on the wall clock, in the year of the day.
abbrev pub noon_by_rule : Offset → Option Dst → ℤ → AmbiguousOffset
noon_by_rule std None day = Unambiguous std
noon_by_rule std (Some dst) day =
    ambiguous_by std dst.offset
    (rule_nanos (year_of_day day) dst.rule.start (pos 0), rule_nanos (year_of_day day) dst.rule.end (pos 0))
    (nanos_of_seconds (noon_at day))

-- the same by a table of changes, of which so many come before noon, and by the rule that it may end in
abbrev pub noon_in_table : Table → ℕ → ℤ → AmbiguousOffset
noon_in_table table count day =
    if is_inside table count (noon_at day) then offsets_in (transition_at table (count - 1))
    else match_some (rule_after table count) (Unambiguous (type_after table count).offset)
    (λ rule. noon_by_rule rule.std_offset rule.dst day)

-- the offsets that noon of a day has in a zone
unfoldable pub noon_offsets : TimeZone → ℤ → AmbiguousOffset
noon_offsets UTC day = Unambiguous utc_offset
noon_offsets Unknown day = Unambiguous utc_offset
noon_offsets (Fixed offset) day = Unambiguous offset
noon_offsets (Posix rule) day = noon_by_rule rule.std_offset rule.dst day
noon_offsets (Tzif table) day = noon_in_table table.now (civil_count_at table.now (noon_at day)) day

-- the instant of local noon: the earlier of two, and where noon is skipped that by the offset before the gap
abbrev pub noon_instant : Zone → ℤ → ℤ
noon_instant zone day = noon_at day -ℤ (compatible_offset (noon_offsets (plain_zone zone.rule) day)).seconds

-- when the day of service starts
abbrev pub start_of : Zone → ℤ → ℤ
start_of zone day = noon_instant zone day -ℤ pos 43200

-- 12 o'clock of a day, on a wall clock
pub record IsNoon (day : ℤ) (noon : DateTime) : Type 0 where
  pub date : epoch_day noon.date ≡ day
  pub time : IsHms (pos 12) (pos 0) (pos 0) (pos 0) noon.time

-- 12 hours after the start a clock of the zone shows noon of the day, in the choice between two instants that
-- RFC 5545 makes: the offset before the change
pub record IsStart (zone : Zone) (day start : ℤ) : Type 0 where
  pub noon : DateTime
  pub is_noon : IsNoon day noon
  pub instant : nanos_of_seconds (start +ℤ pos 43200) ≡ instant_of noon (compatible_offset (ambiguous_at (plain_zone zone.rule) noon))
