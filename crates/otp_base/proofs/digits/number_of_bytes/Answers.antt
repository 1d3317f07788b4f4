use Rattle.std.proofs.Common.{sym, ◌∙◌}
use Rattle.otp_base.proofs.NumberLemmas.{digits_are_text}
use Rattle.otp_base.proofs.digits.number_of_bytes.Goals as goal

pub returns-in-Err : goal.returns-in-Err
returns-in-Err c = absurd (c.in-Err.ensures.cases.0 (digits_are_text c.args.bytes.now (sym c.are_digits.ensures ∙ c.if-not-are_digits.false)))
