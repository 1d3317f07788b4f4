-- Noon of a day as a date and time, and the instants that it may be.
use Rattle.std.proofs.Common.{◌≡◌, ℕ, ◌-◌, cond, ℤ, pos, ◌+ℤ◌, ◌-ℤ◌, ◌*ℤ◌, Option, None, Some, refl, sym, ap, ◌∙◌, arith, w64, to_z, of_z}
use Rattle.std.proofs.lemmas.Int.{ints}
use Rattle.std.specs.Int.{int_div_euclid}
use Rattle.jiff_core.proofs.SignedLemmas.{signed_arith}
use Rattle.jiff_core.specs.Calendar.{IsWithin}
use Rattle.jiff_core.specs.Date.{epoch_day}
use Rattle.jiff_core.specs.DateTime.{civil_nanos, civil_seconds}
use Rattle.jiff_core.specs.Time.{time_seconds}
use Rattle.jiff_core.specs.Timestamp.{IsTimestampNanos, nanos_of_seconds}
use Rattle.jiff_core.specs.declared.Offset.{Offset}
use Rattle.jiff_core.specs.declared.civil.datetime.DateTime.{DateTime}
use Rattle.jiff_tz.proofs.YearLemmas.{year_of_day-date}
use Rattle.jiff_tz.specs.Ambiguous.{instant_of}
use Rattle.jiff_tz.specs.PosixRule.{ambiguous_at as ambiguous_by_rule, ambiguous_at_by, ambiguous_by, match_some, rule_nanos}
use Rattle.jiff_tz.specs.Tzif as Tables
use Rattle.jiff_tz.specs.Year.{year_of_day}
use Rattle.jiff_tz.specs.Zone.{ambiguous_at}
use Rattle.jiff_tz.specs.declared.ambiguous.AmbiguousOffset.{AmbiguousOffset}
use Rattle.jiff_tz.specs.declared.ambiguous.AmbiguousOffset.TheVariants.{Unambiguous}
use Rattle.jiff_tz.specs.declared.posix.Dst.{Dst}
use Rattle.jiff_tz.specs.declared.posix.TimeZone.{TimeZone as Rule}
use Rattle.jiff_tz.specs.declared.timezone.TimeZone.{TimeZone}
use Rattle.jiff_tz.specs.declared.timezone.TimeZone.TheVariants.{UTC, Unknown, Fixed, Posix, Tzif}
use Rattle.jiff_tz.specs.declared.tzif.Tzif.{Tzif as Table}
use Rattle.otp_model.specs.Ranges.{IsServiceDay}
use Rattle.service_days.specs.LocalTime.{IsNoon, noon_at, noon_by_rule, noon_in_table, noon_offsets}

noon_second : (day : ℤ) (noon : DateTime) → IsNoon day noon → time_seconds noon.time ≡ 43200
noon_second day noon h =
    let hour = h.time.0 in
    let minute = h.time.1 in
    let second = h.time.2 in
    omega (arith, signed_arith)

seconds-noon : (day : ℤ) (noon : DateTime) → IsNoon day noon → civil_seconds noon ≡ noon_at day
unfolding civil_seconds
seconds-noon day noon h = let second = noon_second day noon h in let date = h.date in omega (arith, signed_arith)

nanos-noon : (day : ℤ) (noon : DateTime) → IsNoon day noon → civil_nanos noon ≡ nanos_of_seconds (noon_at day)
unfolding civil_nanos
nanos-noon day noon h =
    let second = noon_second day noon h in
    let part = h.time.3 in
    let date = h.date in
    omega (arith, signed_arith)

year-noon : (day : ℤ) (noon : DateTime) → IsNoon day noon → noon.date.year ≡ year_of_day day
year-noon day noon h = sym (year_of_day-date noon.date) ∙ ap year_of_day h.date

rule-noon : (std : Offset) (dst : Option Dst) (day : ℤ) (noon : DateTime) → IsNoon day noon → ambiguous_at_by std dst noon ≡ noon_by_rule std dst day
rule-noon std None day noon h = refl
rule-noon std (Some dst) day noon h =
    ap (λ (year : ℤ). ambiguous_by std dst.offset (rule_nanos year dst.rule.start (pos 0), rule_nanos year dst.rule.end (pos 0)) (civil_nanos noon)) (year-noon day noon h)
    ∙ ap (λ (nanos : ℤ). ambiguous_by std dst.offset (rule_nanos (year_of_day day) dst.rule.start (pos 0), rule_nanos (year_of_day day) dst.rule.end (pos 0)) nanos) (nanos-noon day noon h)

after-noon : (offset : AmbiguousOffset) (day : ℤ) (noon : DateTime) (rule : Option Rule) → IsNoon day noon
    → match_some rule offset (λ (r : Rule). ambiguous_by_rule r noon) ≡ match_some rule offset (λ (r : Rule). noon_by_rule r.std_offset r.dst day)
after-noon offset day noon None h = refl
after-noon offset day noon (Some rule) h = rule-noon rule.std_offset rule.dst day noon h

table-noon : (table : Table) (day : ℤ) (noon : DateTime) → IsNoon day noon → Tables.ambiguous_at table noon ≡ noon_in_table table (Tables.civil_count_at table (noon_at day)) day
table-noon table day noon h =
    let count : ℕ = Tables.civil_count_at table (noon_at day) in
    ap (λ (second : ℤ). cond (Tables.is_inside table (Tables.civil_count_at table second) second) (Tables.offsets_in (Tables.transition_at table (Tables.civil_count_at table second - 1))) (Tables.ambiguous_after table (Tables.civil_count_at table second) noon)) (seconds-noon day noon h)
    ∙ ap (λ (outside : AmbiguousOffset). cond (Tables.is_inside table count (noon_at day)) (Tables.offsets_in (Tables.transition_at table (count - 1))) outside)
    (after-noon (Unambiguous (Tables.type_after table count).offset) day noon (Tables.rule_after table count) h)

-- what jiff says of noon is what its parts say
pub offsets-noon : (zone : TimeZone) (day : ℤ) (noon : DateTime) → IsNoon day noon → ambiguous_at zone noon ≡ noon_offsets zone day
unfolding ambiguous_at noon_offsets
offsets-noon UTC day noon h = refl
offsets-noon Unknown day noon h = refl
offsets-noon (Fixed offset) day noon h = refl
offsets-noon (Posix rule) day noon h = rule-noon rule.std_offset rule.dst day noon h
offsets-noon (Tzif table) day noon h = table-noon table.now day noon h

-- the instant at which a clock at this offset shows noon, in nanoseconds
pub instant-noon : (offset : Offset) (day : ℤ) (noon : DateTime) → IsNoon day noon → instant_of noon offset ≡ nanos_of_seconds (noon_at day -ℤ offset.seconds)
instant-noon offset day noon h = let nanos = nanos-noon day noon h in omega (arith, signed_arith)

pub whole_seconds : (second : ℤ) → int_div_euclid (nanos_of_seconds second) (pos 1_000_000_000) ≡ second
whole_seconds second = omega (arith, signed_arith)

-- the instants of a day of service have a date
pub is_instant : (offset : Offset) (day : ℤ) → IsServiceDay day → IsTimestampNanos (nanos_of_seconds (noon_at day -ℤ offset.seconds))
is_instant offset day h =
    let low = h.low in
    let high = h.high in
    let behind = offset.in_range.0 in
    let ahead = offset.in_range.1 in
    (omega (arith, signed_arith), omega (arith, signed_arith))

-- the second of noon, as it is read off the instant
pub second-noon : (offset : Offset) (day : ℤ) (noon : DateTime) (nanosecond second : ℤ) → IsNoon day noon → nanosecond ≡ instant_of noon offset → second ≡ int_div_euclid nanosecond (pos 1_000_000_000)
    → second ≡ noon_at day -ℤ offset.seconds
second-noon offset day noon nanosecond second h at floor =
    floor ∙ ap (λ n. int_div_euclid n (pos 1_000_000_000)) (at ∙ instant-noon offset day noon h) ∙ whole_seconds (noon_at day -ℤ offset.seconds)

-- 12 hours before it, as the code computes it
pub half_day_before : (offset : Offset) (day second : ℤ) → IsServiceDay day → second ≡ noon_at day -ℤ offset.seconds
    → to_z w64 (of_z w64 (to_z w64 (of_z w64 second) -ℤ pos 43200)) ≡ (noon_at day -ℤ offset.seconds) -ℤ pos 43200
half_day_before offset day second h at =
    let low = h.low in
    let high = h.high in
    let behind = offset.in_range.0 in
    let ahead = offset.in_range.1 in
    omega (arith, ints)

pub near_day : (offset : Offset) (day start : ℤ) → start ≡ (noon_at day -ℤ offset.seconds) -ℤ pos 43200 → IsWithin 93599 (start -ℤ day *ℤ pos 86400)
near_day offset day start is =
    let behind = offset.in_range.0 in
    let ahead = offset.in_range.1 in
    (omega (arith, signed_arith), omega (arith, signed_arith))

pub noon_again : (offset : Offset) (day start : ℤ) (noon : DateTime) → IsNoon day noon → start ≡ (noon_at day -ℤ offset.seconds) -ℤ pos 43200 → nanos_of_seconds (start +ℤ pos 43200) ≡ instant_of noon offset
noon_again offset day start noon h is = let at = instant-noon offset day noon h in omega (arith, signed_arith)

-- the day of a date and time, from whole seconds
pub day-seconds : (shown : DateTime) (nanosecond second offset : ℤ) → nanosecond ≡ nanos_of_seconds second → civil_nanos shown ≡ nanosecond +ℤ nanos_of_seconds offset
    → epoch_day shown.date ≡ int_div_euclid (second +ℤ offset) (pos 86400)
unfolding civil_nanos
day-seconds shown nanosecond second offset at is = omega (arith, signed_arith)
