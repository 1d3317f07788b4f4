-- What `parse` says of a text of digits.
use Rattle.std.proofs.Common.{◌≡◌, ℕ, ◌<◌, ◌≤◌, ◌^◌, List, length, true, Result, Ok, rules, arith}
use Rattle.std.specs.Char.{is_ascii_digit}
use Rattle.std.specs.List.{list_all}
use Rattle.std.specs.Str.Parse.{ParsesUnsigned, digits_value}
use Rattle.std.specs.Str.{IsUtf8}
use Rattle.std.proofs.lemmas.Bool.Decides.{nat_tests}
use Rattle.std.proofs.lemmas.List.Elements.{All-weaker}
use Rattle.std.proofs.lemmas.List.Sums.{AllPass-from_list_all}
use Rattle.std.proofs.lemmas.Str.{IsUtf8-from_ascii}
use Rattle.std.proofs.lemmas.Str.Ascii.{IsAscii-from_all}
use Rattle.std.proofs.lemmas.Str.Parse.{IsNumeralModel, digits_value_short, numerals_by_value, parse_gives}

abbrev AreDigits : List ℕ → Type 0
AreDigits ds = list_all is_ascii_digit ds ≡ true

own : IsNumeralModel AreDigits (digits_value 10)
own = numerals_by_value AreDigits (search rules)

-- 18 digits stay below 10 ^ 18
pub value_small : (ds : List ℕ) → list_all is_ascii_digit ds ≡ true → length ds ≤ 18 → digits_value 10 ds < 10 ^ 18
value_small ds h l = digits_value_short own ds 18 h l

pub parses : {E : Type 0} (ds : List ℕ) (r : Result ℕ E) → ParsesUnsigned 64 10 ds r → list_all is_ascii_digit ds ≡ true → 0 < length ds → length ds ≤ 18 → r ≡ Ok (digits_value 10 ds)
parses ds r h digits some few = parse_gives own 64 ds r h digits some (omega (arith, value_small ds digits few))

below_128 : (b : ℕ) → is_ascii_digit b ≡ true → b < 128
below_128 b h = grind (arith, nat_tests)

-- digits are text
pub digits_are_text : (ds : List ℕ) → list_all is_ascii_digit ds ≡ true → IsUtf8 ds
digits_are_text ds h =
    IsUtf8-from_ascii ds (IsAscii-from_all ds (All-weaker (λ b. is_ascii_digit b ≡ true) (λ b. b < 128) below_128 ds (AllPass-from_list_all is_ascii_digit ds h)))
