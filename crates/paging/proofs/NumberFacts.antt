-- Decimal numbers without leading zeros, and the texts that they have.
use Rattle.std.proofs.Common.{◌≡◌, ◌≢◌, ℕ, zero, suc, ◌+◌, ◌*◌, ◌/◌, ◌%◌, ◌<◌, ◌≤◌, ◌^◌, Bool, true, false, List, [], ◌∷◌, ◌++◌, length, take, get_or, Option, Some, None, IfSome, refl, sym, ◌∙◌, ap, subst, arith, rules}
use Rattle.std.specs.Prelude.{nat_lt, nat_le, decimal, ◌&&◌, if◌then◌else◌}
use Rattle.std.specs.Char.{is_ascii_digit, digit_value}
use Rattle.std.specs.Int.{IsInRange}
use Rattle.std.specs.List.{list_all}
use Rattle.std.specs.Str.Parse.{AllDigits, digits_value}
use Rattle.std.proofs.lemmas.Bool.{and_from, and_parts, le-leb, leb-true, eqb-false, le-ltb, ltb-false, ne_eqb}
use Rattle.std.proofs.lemmas.List.{get_or-take, take_all, take_more}
use Rattle.std.proofs.lemmas.Int.Digits.{digits_value_more}
use Rattle.std.proofs.lemmas.Fmt.{decimal_digit, decimal_is_IsNumeral, decimal_nonempty, decimal_step, first_decimal, length-decimal-le}
use Rattle.std.proofs.lemmas.Str.{digit_value_digit}
use Rattle.std.proofs.lemmas.Str.Parse.{IsNumeralModel, digit_at, digits_value-take-le, digits_value_short, numerals_by_value}
use Rattle.otp_base.specs.Number.{number_of}
use Rattle.paging.specs.Text.{has_leading_zero, plain_number_of}

abbrev AreDigits : List ℕ → Type 0
AreDigits ds = list_all is_ascii_digit ds ≡ true

pub own : IsNumeralModel AreDigits (digits_value 10)
own = numerals_by_value AreDigits (search rules)

-- a text of 1 to 18 digits, and their number
pub record Spells (text : List ℕ) (n : ℕ) : Type 0 where
  pub some : 1 ≤ length text
  pub few : length text ≤ 18
  pub digits : AllDigits 10 text
  pub value : digits_value 10 text ≡ n

spells_if : (text : List ℕ) (n : ℕ) (test : Bool) → test ≡ (nat_le 1 (length text) && (nat_le (length text) 18 && list_all is_ascii_digit text))
    → (if test then Some (digits_value 10 text) else None) ≡ Some n → Spells text n
spells_if text n true e h =
    let parts = and_parts _ _ (sym e) in
    let rest = and_parts _ _ parts.1 in
    record {
      some = leb-true 1 (length text) parts.0;
      few = leb-true (length text) 18 rest.0;
      digits = own.to text rest.1;
      value = cc h;
    }
spells_if text n false e h = cc h

pub spells : (text : List ℕ) (n : ℕ) → number_of text ≡ Some n → Spells text n
spells text n h = spells_if text n _ refl h

pub spelt : (text : List ℕ) (n : ℕ) → Spells text n → number_of text ≡ Some n
spelt text n h =
    let test = and_from _ _ (le-leb 1 (length text) h.some) (and_from _ _ (le-leb (length text) 18 h.few) (own.from text h.digits)) in
    rw test (ap Some h.value)

-- at most so many digits spell a small number
pub small_number : (most : ℕ) (text : List ℕ) (r : Option ℕ) → length text ≤ most → r ≡ number_of text → IfSome r (λ n. n < 10 ^ most)
small_number most text None few e = tt
small_number most text (Some n) few e =
    let h = spells text n (sym e) in
    subst (λ x. x < 10 ^ most) h.value (digits_value_short own text most (own.from text h.digits) few)

-- one digit is the text of its number
one_digit : (b : ℕ) → IsInRange 48 57 b → b ∷ [] ≡ decimal (digits_value 10 (b ∷ []))
one_digit b k =
    let e = digit_value_digit b k in
    let v : digits_value 10 (b ∷ []) ≡ digit_value b = omega arith in
    let small : digits_value 10 (b ∷ []) < 10 = omega (arith, v, e, k.1) in
    let is : b ≡ 48 + digits_value 10 (b ∷ []) = omega (arith, v, e) in
    ap (λ z. z ∷ []) is ∙ sym (decimal_digit (digits_value 10 (b ∷ [])) small)

-- the text of a number and one more digit
one_more : (front : List ℕ) (v c n : ℕ) → front ≡ decimal v → 1 ≤ v → IsInRange 48 57 c → n ≡ v * 10 + digit_value c → n < 2 ^ 64
    → front ++ c ∷ [] ≡ decimal n
one_more front v c n e some k is small =
    let d = digit_value_digit c k in
    let quotient : n / 10 ≡ v = omega (arith, is, d, k.1) in
    let remainder : 48 + n % 10 ≡ c = omega (arith, is, d, k.1) in
    ap (λ z. z ++ c ∷ []) e ∙ ap (λ z. decimal v ++ z ∷ []) (sym remainder) ∙ ap (λ z. decimal z ++ (48 + n % 10) ∷ []) (sym quotient)
    ∙ sym (decimal_step n (omega (arith, is)) small)

-- the number of a text that begins with no zero isn't 0
not_zero : (text front : List ℕ) (v : ℕ) → get_or front 0 0 ≡ get_or text 0 0 → get_or text 0 0 ≢ 48 → front ≡ decimal v → 1 ≤ v
not_zero text front zero e first is =
    absurd (first (sym e ∙ ap (λ z. get_or z 0 0) (is ∙ decimal_digit 0 (omega arith))))
not_zero text front (suc v) e first is = omega arith

-- the front of digits that begin with no zero is the text of its number
front_is : (text : List ℕ) (i : ℕ) → suc i ≤ length text → length text ≤ 18 → AllDigits 10 text → get_or text 0 0 ≢ 48
    → take (suc i) text ≡ decimal (digits_value 10 (take (suc i) text))
front_is text zero l few d first =
    let e : take 1 text ≡ get_or text 0 0 ∷ [] = take_more text 0 0 l in
    rw e (one_digit (get_or text 0 0) (digit_at text 0 d l))
front_is text (suc i) l few d first =
    let before = front_is text i (omega arith) few d first in
    let some = not_zero text (take (suc i) text) (digits_value 10 (take (suc i) text)) (get_or-take (suc i) text 0 0 (omega arith)) first before in
    let place : suc i + 1 ≡ suc (suc i) = omega arith in
    let more : take (suc (suc i)) text ≡ take (suc i) text ++ get_or text (suc i) 0 ∷ [] = rw place at (take_more text (suc i) 0 l) in
    let value : digits_value 10 (take (suc (suc i)) text) ≡ digits_value 10 (take (suc i) text) * 10 + digit_value (get_or text (suc i) 0) =
    rw place at (digits_value_more 10 text (suc i) l) in
    let small : digits_value 10 (take (suc (suc i)) text) < 2 ^ 64 =
    omega (arith, digits_value-take-le 10 text (suc (suc i)) (omega arith), digits_value_short own text 18 (own.from text d) few) in
    more ∙ one_more (take (suc i) text) (digits_value 10 (take (suc i) text)) (get_or text (suc i) 0) _ before some (digit_at text (suc i) d l) value small

whole_is : (text : List ℕ) (i : ℕ) → length text ≡ suc i → length text ≤ 18 → AllDigits 10 text → get_or text 0 0 ≢ 48
    → text ≡ decimal (digits_value 10 text)
whole_is text i l few d first =
    let e : take (suc i) text ≡ text = take_all (suc i) text (omega arith) in
    let h = front_is text i (omega arith) few d first in
    sym e ∙ h ∙ ap (λ z. decimal (digits_value 10 z)) e

-- digits without a leading zero are the text of their number
spelt_is : (text : List ℕ) (n : ℕ) → Spells text n → has_leading_zero text ≡ false → text ≡ decimal n
spelt_is [] n h z = absurd (omega (arith, h.some))
spelt_is (b ∷ []) n h z = one_digit b (digit_at (b ∷ []) 0 h.digits (omega arith)) ∙ ap decimal h.value
spelt_is (b ∷ c ∷ rest) n h z = whole_is (b ∷ c ∷ rest) (suc (length rest)) refl h.few h.digits (eqb-false b 48 z) ∙ ap decimal h.value

-- such a number has its text, and no more digits than it may have
pub record IsPlain (most : ℕ) (text : List ℕ) (n : ℕ) : Type 0 where
  pub is : text ≡ decimal n
  pub small : n < 10 ^ most

plain_if : (most : ℕ) (text : List ℕ) (n : ℕ) (long zeros : Bool) → long ≡ nat_lt most (length text) → zeros ≡ has_leading_zero text
    → (if long then None else (if zeros then None else number_of text)) ≡ Some n → IsPlain most text n
plain_if most text n true zeros l z h = cc h
plain_if most text n false true l z h = cc h
plain_if most text n false false l z h =
    let k = spells text n h in
    record {
      is = spelt_is text n k (sym z);
      small = subst (λ x. x < 10 ^ most) k.value (digits_value_short own text most (own.from text k.digits) (ltb-false most (length text) (sym l)));
    }

pub plain_is : (most : ℕ) (text : List ℕ) (n : ℕ) → plain_number_of most text ≡ Some n → IsPlain most text n
unfolding plain_number_of
plain_is most text n h = plain_if most text n _ _ refl refl h

no_zero : (text : List ℕ) → 48 < get_or text 0 0 → has_leading_zero text ≡ false
no_zero [] h = refl
no_zero (b ∷ []) h = refl
no_zero (b ∷ c ∷ rest) h = ne_eqb b 48 (λ e. omega (arith, h, e))

decimal_plain : (n : ℕ) → n < 2 ^ 64 → has_leading_zero (decimal n) ≡ false
decimal_plain zero h = ap has_leading_zero (decimal_digit 0 (omega arith))
decimal_plain (suc n) h = no_zero (decimal (suc n)) (first_decimal (suc n) (omega arith) h)

-- the text of a number spells it
pub plain_from : (most n : ℕ) → 0 < most → n < 10 ^ most → n < 10 ^ 18 → plain_number_of most (decimal n) ≡ Some n
unfolding plain_number_of
plain_from most n some few small =
    let fits : n < 2 ^ 64 = omega arith in
    let short : nat_lt most (length (decimal n)) ≡ false = le-ltb most (length (decimal n)) (length-decimal-le most n some few fits) in
    let plain = decimal_plain n fits in
    let numeral = decimal_is_IsNumeral n fits in
    rw (short, plain) (spelt (decimal n) n (record {
      some = decimal_nonempty n fits;
      few = length-decimal-le 18 n (omega arith) small fits;
      digits = numeral.0.1;
      value = numeral.1;
    }))
