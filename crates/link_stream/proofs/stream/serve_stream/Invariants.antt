use Rattle.std.proofs.Common.{ℕ, ◌≤◌, List, Option}
use Rattle.link_stream.specs.declared.stream.StreamEnd.{StreamEnd}
use Rattle.link_stream.specs.Transcript.{Transcript, step_of}
use Rattle.link_stream.specs.Turns.{stream_of}
use Rattle.link_stream.proofs.stream.serve_stream.Given as goal

-- whatever comes from here on, with what came so far it is a whole connection
abbrev pub invariant-loop-turn : goal.invariant-loop-turn
invariant-loop-turn g l =
    let whole = Transcript g.V.Service.refusal g.V.Service.no_memory (step_of (g.V.Service.answers l.service)) in
    record {
      fits : g.V.Service.fits l.service l.shared l.session;
      reads : g.I.Source.faults l.fn.source ≤ g.I.Source.faults l.source;
      writes : g.O.Sink.faults l.fn.sink ≤ g.O.Sink.faults l.sink;
      so_far : (end : StreamEnd) (unread : Option (List ℕ)) (now : _) (sent_now : Option (List ℕ))
          → whole l.turn (stream_of l.buffer (g.I.Source.left l.source)) (l.shared, l.session) (g.O.Sink.contents l.sink) end unread now sent_now
          → whole 0 (g.I.Source.left l.fn.source) (l.fn.shared, l.fn.session) (g.O.Sink.contents l.fn.sink) end unread now sent_now;
    }
