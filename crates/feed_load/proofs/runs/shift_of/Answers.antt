use Rattle.std.proofs.Common.{◌<◌, ◌*◌, ℤ, pos, length, get_or, false, sym, subst, ◌∙◌, arith}
use Rattle.otp_model.specs.Limits.{clock_end}
use Rattle.otp_model.specs.Rows.{IsWithin}
use Rattle.otp_model.specs.declared.timetable.Call.{Call}
use Rattle.feed_load.proofs.RunFacts.{shift_first, shift_from, shift_within}
use Rattle.feed_load.proofs.runs.shift_of.Goals as goal

no_call : Call
no_call = record { stop = 0; seq = 0; arrival = pos 0; departure = pos 0; board = false; alight = false }

pub returns-clause-shift : goal.returns-clause-shift
unfolding no_call
returns-clause-shift c =
    let calls = c.args.calls.now in
    let some : 0 < length calls = omega (arith, c.if-calls-eq0.false) in
    let small = rw c.in-Some.is at c.requires.start in
    rw c.in-Some.is (shift_from c.in-Some.start c.from.result (get_or calls 0 no_call).departure c.from.ensures small (c.requires.clocks 0 no_call some).departure ∙ sym (shift_first c.in-Some.start calls no_call some))

pub returns-clause-within : goal.returns-clause-within
unfolding no_call
returns-clause-within c =
    let calls = c.args.calls.now in
    let some : 0 < length calls = omega (arith, c.if-calls-eq0.false) in
    let small = rw c.in-Some.is at c.requires.start in
    let clock = (c.requires.clocks 0 no_call some).departure in
    subst (λ (z : ℤ). IsWithin (2 * clock_end) z) (sym (shift_from c.in-Some.start c.from.result (get_or calls 0 no_call).departure c.from.ensures small clock))
    (shift_within c.in-Some.start (get_or calls 0 no_call).departure small clock)
