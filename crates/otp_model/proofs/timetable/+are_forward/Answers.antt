use Rattle.std.proofs.Common.{arith}
use Rattle.otp_model.proofs.TimelyLemmas.{forward_first, forward_from, forward_rest}
use Rattle.otp_model.proofs.timetable.+are_forward.Goals as goal

pub returns-then-is_left_before : goal.returns-then-is_left_before
returns-then-is_left_before t c = (
  (λ forward. forward_from c.args.calls.now _ (omega arith) (c.is_left_before.ensures.0 c.if-is_left_before.true) (c.are_forward.ensures.0 forward)),
  (λ forward. c.are_forward.ensures.1 (forward_rest c.args.calls.now (omega arith) forward)),
)

pub returns-else-is_left_before : goal.returns-else-is_left_before
returns-else-is_left_before t c = (
  (λ before. forward_from c.args.calls.now _ (omega arith) (c.is_left_before.ensures.0 before) (absurd (cc (before, c.if-is_left_before.false)))),
  (λ forward. c.is_left_before.ensures.1 (forward_first c.args.calls.now _ (omega arith) forward)),
)
