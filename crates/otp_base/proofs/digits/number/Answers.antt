use Rattle.std.proofs.Common.{◌≡◌, ◌<◌, ◌≤◌, length, sym, ◌∙◌, arith}
use Rattle.std.specs.Str.Parse.{digits_value}
use Rattle.otp_base.proofs.NumberLemmas.{parses, value_small}
use Rattle.otp_base.proofs.digits.number.Goals as goal

pub returns-in-Ok-clause-small : goal.returns-in-Ok-clause-small
returns-in-Ok-clause-small c =
    let digits = rw c.as_bytes.ensures.value at (sym c.are_digits.ensures ∙ c.if-not-are_digits.false) in
    let few : length c.args.text.now ≤ 18 = omega arith in
    let some : 0 < length c.args.text.now = omega arith in
    let small = value_small c.args.text.now digits few in
    let read = parses c.args.text.now c.parse.result c.parse.ensures.value.0 digits some few in
    let same : c.in-Ok.number ≡ digits_value 10 c.args.text.now = cc (read, c.in-Ok.is) in
    rw same small

pub returns-in-Err-clause-value : goal.returns-in-Err-clause-value
returns-in-Err-clause-value c =
    let digits = rw c.as_bytes.ensures.value at (sym c.are_digits.ensures ∙ c.if-not-are_digits.false) in
    let few : length c.args.text.now ≤ 18 = omega arith in
    let some : 0 < length c.args.text.now = omega arith in
    let read = parses c.args.text.now c.parse.result c.parse.ensures.value.0 digits some few in
    cc (read, c.in-Err.is)
