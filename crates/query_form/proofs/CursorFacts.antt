-- The text of a cursor stands for itself in a query.
use Rattle.std.proofs.Common.{◌≡◌, ◌≢◌, ℕ, ◌<◌, ◌≤◌, ◌^◌, ℤ, pos, negsuc, true, List, [], ◌∷◌, All, refl, arith, codes}
use Rattle.std.specs.Prelude.{nat_le, nat_lt, ◌&&◌, decimal}
use Rattle.std.specs.Fmt.{signed_decimal}
use Rattle.std.specs.List.{list_all}
use Rattle.std.proofs.lemmas.Bool.{and_parts, leb-true, ltb-true}
use Rattle.std.proofs.lemmas.Fmt.{decimal_is_IsNumeral}
use Rattle.std.proofs.lemmas.Int.{ints}
use Rattle.std.proofs.lemmas.List.Elements.{All-append, All-cons, All-from_get_or, All-nil, All-weaker}
use Rattle.std.proofs.lemmas.Str.{IsUtf8-from_ascii, utf8_lossy-IsUtf8}
use Rattle.std.proofs.lemmas.Str.Ascii.{IsAscii-from_all}
use Rattle.std.proofs.lemmas.Str.Parse.{digit_at}
use Rattle.form_urlencoded.specs.Form.{IsPlain}
use Rattle.form_urlencoded.proofs.FormLemmas.{decode_plain}
use Rattle.otp_model.specs.declared.journey.Cursor.{Cursor}
use Rattle.paging.specs.Text.{FitsText, FitsTime, cursor_text_of}
use Rattle.query_form.specs.Pairs.{text_of}

-- a hyphen, a digit or a letter: nothing that a query reads otherwise
pub record IsKept (b : ℕ) : Type 0 where
  pub low : 45 ≤ b
  pub high : b < 128

pub kept : (xs : List ℕ) → list_all (λ b. nat_le 45 b && nat_lt b 128) xs ≡ true → All IsKept xs
kept [] h = All-nil IsKept
kept (x ∷ xs) h =
    let parts = and_parts _ _ h in
    let bounds = and_parts _ _ parts.0 in
    All-cons IsKept x xs (record { low = leb-true 45 x bounds.0; high = ltb-true x 128 bounds.1 }) (kept xs parts.1)

-- letters: no equals sign
pub letters : (xs : List ℕ) → list_all (nat_lt 61) xs ≡ true → All (λ b. b ≢ 61) xs
letters [] h = All-nil (λ b. b ≢ 61)
letters (x ∷ xs) h =
    let parts = and_parts _ _ h in
    let above = ltb-true 61 x parts.0 in
    All-cons (λ b. b ≢ 61) x xs (λ e. omega (arith, above, e)) (letters xs parts.1)

kept_number : (n : ℕ) → n < 10 ^ 18 → All IsKept (decimal n)
kept_number n small =
    let digits = (decimal_is_IsNumeral n (omega arith)).0.1 in
    All-from_get_or IsKept (decimal n) 0 (λ i l. let d = digit_at (decimal n) i digits l in record { low = omega (arith, d.0); high = omega (arith, d.1) })

kept_time : (t : ℤ) → FitsTime t → All IsKept (signed_decimal t)
kept_time (pos n) h = kept_number n (omega (arith, ints, h.high))
kept_time (negsuc n) h = absurd (omega (arith, ints, h.low))

pub kept_text : (cursor : Cursor) → FitsText cursor → All IsKept (cursor_text_of cursor)
kept_text cursor h =
    let hyphen = kept (codes "-") refl in
    All-append IsKept (codes "v1-") _ (kept (codes "v1-") refl)
    (All-append IsKept (decimal cursor.commit) _ (kept_number cursor.commit h.commit) (All-append IsKept (codes "-") _ hyphen
    (All-append IsKept (signed_decimal cursor.value.departure) _ (kept_time cursor.value.departure h.departure) (All-append IsKept (codes "-") _ hyphen
    (All-append IsKept (signed_decimal cursor.value.arrival) _ (kept_time cursor.value.arrival h.arrival) (All-append IsKept (codes "-") _ hyphen
    (All-append IsKept (decimal cursor.value.rides) _ (kept_number cursor.value.rides (omega (arith, h.rides))) (All-append IsKept (codes "-") _ hyphen
    (kept_number cursor.value.cost h.cost)))))))))

-- it is read as it stands
pub text_of-kept : (xs : List ℕ) → All IsKept xs → text_of xs ≡ xs
text_of-kept xs all =
    let plain : All IsPlain xs = All-weaker IsKept IsPlain (λ b k. ((λ e. omega (arith, k.low, e)), (λ e. omega (arith, k.low, e)))) xs all in
    let decoded = decode_plain xs plain in
    rw decoded (utf8_lossy-IsUtf8 xs (IsUtf8-from_ascii xs (IsAscii-from_all xs (All-weaker IsKept (λ b. b < 128) (λ b k. k.high) xs all))))
