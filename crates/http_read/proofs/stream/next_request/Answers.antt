use Rattle.std.proofs.Common.{take, subst}
use Rattle.http_read.specs.Head.{StartOf}
use Rattle.http_read.specs.declared.head.Start.TheVariants as start
use Rattle.http_read.proofs.StreamLemmas.{answers_many, answers_spent, answers_failed, answers_memory, answers_refused, answers_asked}
use Rattle.http_read.proofs.stream.next_request.Goals as goal

pub returns-then-lines-gt-HEAD_LINES-clause-item : goal.returns-then-lines-gt-HEAD_LINES-clause-item
returns-then-lines-gt-HEAD_LINES-clause-item g c =
    answers_many _ _ c.args.buffer.now c.look_ahead.new.buffer _ c.in-Head.lines c.in-Head.ensures.stream c.in-Head.ensures.found.1 c.if-lines-gt-HEAD_LINES.true

pub returns-in-Asks-clause-item : goal.returns-in-Asks-clause-item
returns-in-Asks-clause-item g c =
    let size = c.in-Head.size in
    let text : StartOf (take size c.look_ahead.new.buffer) (start.Asks c.in-Asks.asked) = subst (λ z. StartOf (take size z) (start.Asks c.in-Asks.asked)) c.as_slice.ensures.value c.in-Asks.ensures in
    let body = rw c.take_front.ensures.rest at c.read_body.ensures.body in
    answers_asked _ _ _ c.args.buffer.now c.look_ahead.new.buffer c.read_body.new.buffer size c.in-Head.lines c.in-Asks.asked c.read_body.result
    c.in-Head.ensures.stream c.in-Head.ensures.found.1 c.if-lines-gt-HEAD_LINES.false text body

pub returns-in-Refused-clause-item : goal.returns-in-Refused-clause-item
returns-in-Refused-clause-item g c =
    let size = c.in-Head.size in
    let text : StartOf (take size c.look_ahead.new.buffer) (start.Refused c.in-Refused.fault) = subst (λ z. StartOf (take size z) (start.Refused c.in-Refused.fault)) c.as_slice.ensures.value c.in-Refused.ensures in
    answers_refused _ _ c.args.buffer.now c.look_ahead.new.buffer (take size c.look_ahead.new.buffer) c.in-Head.lines c.in-Refused.fault
    c.in-Head.ensures.stream c.in-Head.ensures.found.1 c.if-lines-gt-HEAD_LINES.false text

pub returns-in-Spent-clause-item : goal.returns-in-Spent-clause-item
returns-in-Spent-clause-item g c =
    answers_spent _ _ c.args.buffer.now c.look_ahead.new.buffer c.in-Spent.ensures.stream c.in-Spent.ensures.found

pub returns-in-ReadFault-clause-item : goal.returns-in-ReadFault-clause-item
returns-in-ReadFault-clause-item g c = answers_failed _ _ c.args.buffer.now c.look_ahead.new.buffer c.in-ReadFault.ensures.stream c.in-ReadFault.ensures.found

pub returns-in-Memory-clause-item : goal.returns-in-Memory-clause-item
returns-in-Memory-clause-item g c = answers_memory _ _ c.args.buffer.now c.look_ahead.new.buffer c.in-Memory.ensures.stream
