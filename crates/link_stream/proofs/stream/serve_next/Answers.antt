use Rattle.std.proofs.Common.{[], inr, refl}
use Rattle.link_stream.specs.Turns.{stream_of}
use Rattle.link_stream.proofs.TurnLemmas.{front_refused, front_unfinished, ends_refused, ends_memory}
use Rattle.link_stream.proofs.WriteLemmas.{appends_nothing}
use Rattle.link_stream.proofs.stream.serve_next.Goals as goal

pub returns-in-Refused-clause-turns : goal.returns-in-Refused-clause-turns
returns-in-Refused-clause-turns g c =
    let front = front_refused _ _ c.args.buffer.now c.next_request.new.buffer c.in-Refused.fault c.in-Refused.ensures.item in
    inr (refl, ends_refused g.V.Service.refusal g.V.Service.no_memory _ _ c.in-Refused.fault _ _ c.refuse.result front c.refuse.ensures.written)

pub returns-in-Memory-clause-turns : goal.returns-in-Memory-clause-turns
returns-in-Memory-clause-turns g c =
    inr (refl, ends_memory g.V.Service.refusal g.V.Service.no_memory (stream_of c.args.buffer.now (g.I.Source.left c.args.source.now)) _ _ _ c.give_up.result c.give_up.ensures.written c.give_up.ensures.not_ended)

pub returns-in-ReadFault-clause-turns : goal.returns-in-ReadFault-clause-turns
returns-in-ReadFault-clause-turns g c =
    inr (refl, ([], (front_unfinished _ _ c.args.buffer.now c.next_request.new.buffer c.in-ReadFault.ensures.item, refl), appends_nothing _))
