use Rattle.std.proofs.Common.{◌≡◌, ◌≤◌, arith, refl, rules, w8, w16, w32}
use Rattle.std.proofs.lemmas.Int.{to_z-of_z, to_z_pos}
use Rattle.otp_model.proofs.DayFacts.{date-false, date-true}
use Rattle.otp_model.proofs.day.day_at.Goals as goal

pub returns-then-year-eq0-clause-day : goal.returns-then-year-eq0-clause-day
returns-then-year-eq0-clause-day c = rw c.if-year-eq0.true refl

pub returns-in-Ok-clause-day : goal.returns-in-Ok-clause-day
returns-in-Ok-clause-day c =
    let year = to_z_pos w16 c.args.year (omega (arith, c.requires.year)) in
    let month = to_z_pos w8 c.args.month (omega (arith, c.requires.month)) in
    let day = to_z_pos w8 c.args.day (omega (arith, c.requires.day)) in
    let after : 1 ≤ c.args.year = omega (arith, c.if-year-eq0.false) in
    let is = rw (year, month, day) at c.in-Ok.ensures.succeeds in
    let parts = rw (year, month, day) at c.in-Ok.ensures.value in
    let same_month : c.in-Ok.date.month ≡ c.args.month = cc parts.1 in
    let same_day : c.in-Ok.date.day ≡ c.args.day = cc parts.2 in
    let number = to_z-of_z w32 c.to_unix_epoch_day.result (search rules) in
    rw (number, date-true c.args.year c.args.month c.args.day after (is.0 refl), c.to_unix_epoch_day.ensures.value, c.to_plain.ensures, parts.0, same_month, same_day) refl

pub returns-in-Err-clause-day : goal.returns-in-Err-clause-day
returns-in-Err-clause-day c =
    let year = to_z_pos w16 c.args.year (omega (arith, c.requires.year)) in
    let month = to_z_pos w8 c.args.month (omega (arith, c.requires.month)) in
    let day = to_z_pos w8 c.args.day (omega (arith, c.requires.day)) in
    let is = rw (year, month, day) at c.in-Err.ensures.succeeds in
    rw (date-false c.args.year c.args.month c.args.day c.requires.year (λ h. let e = is.1 h in cc e)) refl
