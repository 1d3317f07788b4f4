use Rattle.std.proofs.Common.{◌≡◌, inl, refl, subst, sym, arith, []}
use Rattle.link_stream.specs.Transcript.{Transcript, step_of}
use Rattle.link_stream.specs.Turns.{stream_of}
use Rattle.link_stream.specs.declared.stream.StreamEnd.TheVariants as ended
use Rattle.link_stream.proofs.TurnLemmas.{goes_on, ends_here, is_spent, ends_memory}
use Rattle.link_stream.proofs.stream.serve_stream.Goals as goal

pub returns-in_default-clause-transcript : goal.returns-in_default-clause-transcript
returns-in_default-clause-transcript g c =
    let bytes = g.I.Source.left c.args.source.now in
    let ends = ends_memory g.V.Service.refusal g.V.Service.no_memory bytes bytes _ _ c.give_up.result c.give_up.ensures.written c.give_up.ensures.not_ended in
    record { exchanges = []; rest = bytes; last = ends.0; run = (refl, refl); ends = inl (omega arith, ends.1); written = ends.2 }

pub returns-in-Ends-clause-transcript : goal.returns-in-Ends-clause-transcript
returns-in-Ends-clause-transcript g c =
    let few = c.loop-turn-test.true in
    c.loop-turn.invariant.so_far c.in-Ends.end _ _ _
    (ends_here g.V.Service.refusal g.V.Service.no_memory (step_of (g.V.Service.answers c.args.service.now)) c.loop-turn.turn _ _ _ _ _ _ _ c.in-Ends.end few c.in-Ends.ensures.turns)

pub loop-turn-preserved : goal.loop-turn-preserved
loop-turn-preserved g c =
    let few = c.loop-turn-test.true in
    let before = c.loop-turn.invariant in
    record {
      fits = c.serve_next.ensures.fits;
      reads = (let a = before.reads in let b = c.serve_next.ensures.later_reads in omega arith);
      writes = (let a = before.writes in let b = c.serve_next.ensures.later_writes in omega arith);
      so_far = λ end unread now sent_now rest. before.so_far end unread now sent_now
          (goes_on g.V.Service.refusal g.V.Service.no_memory (step_of (g.V.Service.answers c.args.service.now)) c.loop-turn.turn _ _ (g.I.Source.left c.serve_next.new.source) _ _ _ _ few c.in-Open.ensures.turns end unread now sent_now rest);
    }

pub returns-clause-transcript : goal.returns-clause-transcript
returns-clause-transcript g c =
    let step = step_of (g.V.Service.answers c.args.service.now) in
    let whole = Transcript g.V.Service.refusal g.V.Service.no_memory step in
    let l = c.loop-turn in
    let over = c.loop-turn-test.false in
    let most = c.loop-turn.auto.turn-end in
    let all : l.turn ≡ 1000000 = omega arith in
    let left = g.I.Source.left l.source in
    let bytes = stream_of l.buffer left in
    let state : g.row.D.Denot × g.row.S.Denot = (l.shared, l.session) in
    let sent = g.O.Sink.contents l.sink in
    l.invariant.so_far ended.Spent left state sent
    (subst (λ number. whole number bytes state sent ended.Spent left state sent) (sym all) (is_spent g.V.Service.refusal g.V.Service.no_memory step bytes left state sent))
