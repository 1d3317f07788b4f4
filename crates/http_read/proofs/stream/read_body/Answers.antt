use Rattle.std.proofs.Common.{take, min, length, ap, ◌∙◌}
use Rattle.http_read.proofs.StreamLemmas.{whole_body, fewer_body}
use Rattle.http_read.proofs.stream.read_body.Goals as goal

pub returns-in-Whole-clause-body : goal.returns-in-Whole-clause-body
returns-in-Whole-clause-body g c =
    let held = c.as_slice-held.ensures.value in
    let read = c.in-Whole.ensures.bytes in
    let whole = whole_body _ _ c.args.buffer.now c.in-Ok.body.items c.read_rest.new.body.items c.min-front.result c.args.asked.length
    (c.min-front.ensures ∙ ap (λ z. min (length z) c.args.asked.length) held)
    (c.in-Ok.ensures.items ∙ ap (take c.min-front.result) held) read.0 read.1 in
    (c.read_rest.new.body.items, rw c.take_front.ensures.rest whole, read.1, c.request_of.ensures)

pub returns-in-ReadFault-clause-body : goal.returns-in-ReadFault-clause-body
returns-in-ReadFault-clause-body g c =
    let held = c.as_slice-held.ensures.value in
    let read = c.in-ReadFault.ensures.bytes in
    fewer_body _ _ c.args.buffer.now c.in-Ok.body.items c.read_rest.new.body.items c.min-front.result c.args.asked.length
    (c.min-front.ensures ∙ ap (λ z. min (length z) c.args.asked.length) held)
    (c.in-Ok.ensures.items ∙ ap (take c.min-front.result) held) read.0 read.1 read.2
