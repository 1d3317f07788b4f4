use Rattle.std.proofs.Common.{◌≡◌, pos, refl, ap, ◌∙◌, arith, w32, w64, rules}
use Rattle.std.proofs.lemmas.Bool.{le-leb}
use Rattle.std.proofs.lemmas.Int.{to_z-of_z, to_z_pos}
use Rattle.std.proofs.lemmas.Result.{IfOk-at_ok}
use Rattle.jiff.specs.ZoneView.{plain_zone}
use Rattle.jiff_core.specs.Date.{epoch_day}
use Rattle.jiff_core.specs.Timestamp.{nanos_of_seconds}
use Rattle.jiff_tz.specs.Zone.{offset_at}
use Rattle.service_days.proofs.TimeFacts.{day-seconds}
use Rattle.service_days.proofs.local_time.local_day.Goals as goal

pub returns-clause-day : goal.returns-clause-day
returns-clause-day c =
    let cast = to_z_pos w64 c.args.instant (omega (arith, c.if-instant-gt-LATEST.false)) in
    let within = le-leb c.args.instant 253402000000 c.if-instant-gt-LATEST.false in
    let at : c.unwrap-instant.result.nanosecond ≡ nanos_of_seconds (pos c.args.instant) =
    IfOk-at_ok _ c.unwrap-instant.ensures c.from_second.ensures.value ∙ ap nanos_of_seconds cast in
    let back = to_z-of_z w32 c.to_unix_epoch_day.result (search rules) in
    let shown = day-seconds c.to_datetime.result c.unwrap-instant.result.nanosecond (pos c.args.instant) (offset_at (plain_zone c.args.zone.now.rule) c.unwrap-instant.result.nanosecond) at c.to_datetime.ensures in
    let day : c.to_unix_epoch_day.result ≡ epoch_day c.to_datetime.result.date = c.to_unix_epoch_day.ensures.value ∙ ap epoch_day (c.to_plain.ensures ∙ c.date-date.ensures) in
    rw (back, within, ← at, day, shown) refl
