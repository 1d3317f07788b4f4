-- The calendar's dates, as a test.
use Rattle.std.proofs.Common.{◌≡◌, ℕ, ◌≤◌, ◌<◌, Bool, true, false, pos, inl, inr, arith, refl}
use Rattle.std.specs.Prelude.{nat_le, ◌&&◌}
use Rattle.std.proofs.lemmas.Bool.{le-leb, leb-true, cases_Bool}
use Rattle.std.proofs.lemmas.Int.{ints}
use Rattle.jiff_core.specs.Calendar.{IsDate, days_in_month}
use Rattle.otp_model.specs.Day.{is_date}

pub date-true : (year month day : ℕ) → 1 ≤ year → IsDate (pos year) (pos month) (pos day) → is_date year month day ≡ true
date-true year month day after h =
    let y = le-leb 1 year after in
    let m1 = le-leb 1 month (omega (arith, ints, h.1.0)) in
    let m2 = le-leb month 12 (omega (arith, ints, h.1.1)) in
    let d1 = le-leb 1 day (omega (arith, ints, h.2.0)) in
    let d2 = le-leb day (days_in_month (pos year) month) (omega (arith, ints, h.2.1)) in
    rw (y, m1, m2, d1, d2) refl

and-left : (a b : Bool) → (a && b) ≡ true → a ≡ true
and-left true b h = refl
and-left false b h = h

and-right : (a b : Bool) → (a && b) ≡ true → b ≡ true
and-right true b h = h
and-right false b h = cc h

pub true-date : (year month day : ℕ) → year < 10000 → is_date year month day ≡ true → IsDate (pos year) (pos month) (pos day)
true-date year month day before h =
    let rest = and-right (nat_le 1 year) _ h in
    let ms = and-left (nat_le 1 month && nat_le month 12) (nat_le 1 day && nat_le day (days_in_month (pos year) month)) rest in
    let ds = and-right (nat_le 1 month && nat_le month 12) (nat_le 1 day && nat_le day (days_in_month (pos year) month)) rest in
    let m1 = leb-true 1 month (and-left (nat_le 1 month) (nat_le month 12) ms) in
    let m2 = leb-true month 12 (and-right (nat_le 1 month) (nat_le month 12) ms) in
    let d1 = leb-true 1 day (and-left (nat_le 1 day) (nat_le day (days_in_month (pos year) month)) ds) in
    let d2 = leb-true day (days_in_month (pos year) month) (and-right (nat_le 1 day) (nat_le day (days_in_month (pos year) month)) ds) in
    ((omega (arith, ints), omega (arith, ints, before)), (omega (arith, ints, m1), omega (arith, ints, m2)), (omega (arith, ints, d1), omega (arith, ints, d2)))

pub date-false : (year month day : ℕ) → year < 10000 → ¬ (IsDate (pos year) (pos month) (pos day)) → is_date year month day ≡ false
date-false year month day before none =
    elim (cases_Bool (is_date year month day)) [ inl there ↦ absurd (none (true-date year month day before there)) | inr missing ↦ missing ]
