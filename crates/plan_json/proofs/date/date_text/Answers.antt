use Rattle.std.proofs.Common.{◌≡◌, ℕ, sym, ap, ◌∙◌, unsigned_abs, rules, w32, w64, string_bytes}
use Rattle.std.proofs.lemmas.Int.{to_z-of_z}
use Rattle.std.proofs.lemmas.Result.{IfOk-at_ok, IfOk-weaker}
use Rattle.jiff_core.specs.Date.{epoch_day}
use Rattle.jiff_tz.proofs.YearLemmas.{back_year}
use Rattle.plan_json.specs.Date.{date_text, digits_of}
use Rattle.plan_json.proofs.DateFacts.{date_text-parts}
use Rattle.plan_json.proofs.date.date_text.Goals as goal

pub returns : goal.returns
returns c =
    let back = to_z-of_z w32 c.args.day c.ranges.day in
    let wide = to_z-of_z w64 c.from.result (search rules) in
    let year = back_year c.unwrap-date.result.year c.unwrap-date.result.year_in in
    let day : epoch_day c.unwrap-date.result ≡ c.args.day = IfOk-at_ok _ c.unwrap-date.ensures c.from_unix_epoch_day.ensures.value ∙ (wide ∙ (c.from.ensures ∙ back)) in
    let is = sym (date_text-parts c.unwrap-date.result) ∙ ap date_text day in
    IfOk-weaker c.digits_of.result
    (λ text. string_bytes text ≡ digits_of c.unsigned_abs.result c.unwrap-date.result.month c.unwrap-date.result.day)
    (λ text. string_bytes text ≡ date_text c.args.day)
    (λ text e. e ∙ (ap (λ (y : ℕ). digits_of y c.unwrap-date.result.month c.unwrap-date.result.day) (c.unsigned_abs.ensures.value ∙ ap unsigned_abs year) ∙ is)) c.digits_of.ensures
