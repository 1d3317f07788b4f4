-- The year, month and day of a date, read off its day number.
use Rattle.std.proofs.Common.{◌≡◌, ℕ, ◌+◌, ◌-◌, ◌<◌, ◌≤◌, Bool, false, ℤ, pos, ◌-ℤ◌, unsigned_abs, refl, ap, subst, ◌∙◌, arith}
use Rattle.std.specs.Prelude.{nat_le}
use Rattle.std.specs.List.{range_with_len}
use Rattle.std.proofs.lemmas.Bool.{le-leb}
use Rattle.std.proofs.lemmas.Bool.Decides.{nat_tests}
use Rattle.std.proofs.lemmas.List.FromFn.{get_or-range_with_len, length-range_with_len}
use Rattle.std.proofs.lemmas.List.Sums.{prefix_len_is}
use Rattle.jiff_core.proofs.CalendarLemmas.{day_count-day_of_year, days_from_civil-day_count, days_of_months_mono, days_of_months_more}
use Rattle.jiff_core.proofs.SignedLemmas.{signed_arith}
use Rattle.jiff_core.specs.Calendar.{day_of_year, days_from_civil, days_of_months}
use Rattle.jiff_core.specs.Date.{epoch_day}
use Rattle.jiff_core.specs.declared.civil.date.Date.{Date}
use Rattle.jiff_tz.proofs.YearLemmas.{year_of_day-date}
use Rattle.plan_json.specs.Date.{date_text, days_before, digits_of, months_before}

over : (a b : ℕ) → b < a → nat_le a b ≡ false
over a b h = grind (arith, nat_tests)

-- the month before which the days of so many months lie, and not those of one more
pub months-are : (year : ℤ) (months left : ℕ) → months < 12 → days_of_months year months ≤ left → left < days_of_months year (months + 1) → months_before year left ≡ months
months-are year months left small reached before =
    let passes : ℕ → Bool = λ (n : ℕ). nat_le (days_of_months year n) left in
    prefix_len_is passes (range_with_len 1 12) months 0 (rw length-range_with_len (omega arith))
    (λ k h. let in' : k < 12 = omega arith in
    rw (get_or-range_with_len 1 12 k 0 in') (le-leb (days_of_months year (1 + k)) left (omega (arith, reached, days_of_months_mono year (1 + k) months (omega arith)))))
    (λ _. rw (get_or-range_with_len 1 12 months 0 small) (over (days_of_months year (1 + months)) left (subst (λ (n : ℕ). left < days_of_months year n) (omega arith) before)))

-- the days before a date in its year
left-date : (d : Date) → days_before (epoch_day d) ≡ days_of_months d.year (d.month - 1) + (d.day - 1)
left-date d =
    let low = d.day_in.0 in
    let date = days_from_civil-day_count d.year d.month d.day in
    let first = days_from_civil-day_count d.year 1 1 in
    let place = day_count-day_of_year d.year d.month d.day low in
    let of_year : day_of_year d.year d.month d.day ≡ days_of_months d.year (d.month - 1) + d.day = refl in
    let there : epoch_day d -ℤ days_from_civil d.year 1 1 ≡ pos (days_of_months d.year (d.month - 1) + (d.day - 1)) = omega (arith, signed_arith) in
    ap (λ (year : ℤ). unsigned_abs (epoch_day d -ℤ days_from_civil year 1 1)) (year_of_day-date d) ∙ ap unsigned_abs there

-- the text of a date's day number is that of its parts
pub date_text-parts : (d : Date) → date_text (epoch_day d) ≡ digits_of (unsigned_abs d.year) d.month d.day
date_text-parts d =
    let y : ℤ = d.year in
    let m = d.month_in in
    let low = m.0 in
    let high = m.1 in
    let first = d.day_in.0 in
    let last = d.day_in.1 in
    let more = days_of_months_more d.year d.month low in
    let back : d.month - 1 + 1 ≡ d.month = omega arith in
    let months = months-are d.year (d.month - 1) (days_of_months d.year (d.month - 1) + (d.day - 1)) (omega arith) (omega arith) (rw back (omega arith)) in
    let day : days_of_months d.year (d.month - 1) + (d.day - 1) - days_of_months d.year (d.month - 1) + 1 ≡ d.day = omega arith in
    ap (λ (year : ℤ). digits_of (unsigned_abs year) (months_before year (days_before (epoch_day d)) + 1) (days_before (epoch_day d) - days_of_months year (months_before year (days_before (epoch_day d))) + 1)) (year_of_day-date d)
    ∙ ap (λ (left : ℕ). digits_of (unsigned_abs d.year) (months_before d.year left + 1) (left - days_of_months d.year (months_before d.year left) + 1)) (left-date d)
    ∙ ap (λ (n : ℕ). digits_of (unsigned_abs d.year) (n + 1) (days_of_months d.year (d.month - 1) + (d.day - 1) - days_of_months d.year n + 1)) months
    ∙ (ap (λ (n : ℕ). digits_of (unsigned_abs d.year) n (days_of_months d.year (d.month - 1) + (d.day - 1) - days_of_months d.year (d.month - 1) + 1)) back
    ∙ ap (λ (n : ℕ). digits_of (unsigned_abs d.year) d.month n) day)
