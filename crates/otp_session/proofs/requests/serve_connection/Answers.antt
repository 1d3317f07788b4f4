use Rattle.std.proofs.Common.{◌≡◌, ap, refl, sym, subst, ◌∙◌}
use Rattle.std.specs.Arc.{arc_value}
use Rattle.link_stream.proofs.RunLemmas.{run_keeps}
use Rattle.otp_session.specs.Connections.{Grows, StepOver}
use Rattle.otp_session.specs.Sessions.{SessionView, StaysAt}
use Rattle.otp_session.proofs.GrowLemmas.{grows_opened, grows_same, grows_then, request_grows}
use Rattle.otp_session.proofs.requests.serve_connection.Goals as goal

pub returns-clause-transcript : goal.returns-clause-transcript
returns-clause-transcript g c = rw (← c.open.ensures) c.serve_stream.ensures.transcript

pub returns-clause-grows : goal.returns-clause-grows
returns-clause-grows g c =
    let whole = c.serve_stream.ensures.transcript in
    let feed = arc_value c.args.base.now.feed in
    let edges = c.args.base.now.edges in
    let feeds = c.args.base.now.feeds in
    grows_then c.args.session.now c.open.new.self c.serve_stream.new.session (grows_opened c.args.session.now c.open.new.self c.open.ensures)
    (run_keeps (StepOver g.A.DeskAt.state g.A.DeskAt.place feed edges feeds) (λ x y. Grows x.1 y.1)
    (λ x y same. grows_same x.1 y.1 (ap (λ z. z.1) same))
    (λ x y z. grows_then x.1 y.1 z.1)
    (λ x request last reply y step. request_grows feed edges feeds request (g.A.DeskAt.state x.0) (g.A.DeskAt.state y.0) x.1 y.1 step.served.reply step.served.step)
    0 _ (c.args.desk.now, c.open.new.self) whole.exchanges whole.rest (c.serve_stream.new.shared, c.serve_stream.new.session) whole.run)

pub returns-clause-place : goal.returns-clause-place
returns-clause-place g c =
    let whole = c.serve_stream.ensures.transcript in
    run_keeps (StepOver g.A.DeskAt.state g.A.DeskAt.place (arc_value c.args.base.now.feed) c.args.base.now.edges c.args.base.now.feeds) (λ x y. g.A.DeskAt.place y.0 ≡ g.A.DeskAt.place x.0)
    (λ x y same. ap (λ z. g.A.DeskAt.place z.0) same)
    (λ x y z first second. second ∙ first)
    (λ x request last reply y step. step.stays)
    0 _ (c.args.desk.now, c.open.new.self) whole.exchanges whole.rest (c.serve_stream.new.shared, c.serve_stream.new.session) whole.run

pub returns-clause-stays : goal.returns-clause-stays
returns-clause-stays g c =
    let whole = c.serve_stream.ensures.transcript in
    let kept : StaysAt c.open.new.self c.serve_stream.new.session =
    run_keeps (StepOver g.A.DeskAt.state g.A.DeskAt.place (arc_value c.args.base.now.feed) c.args.base.now.edges c.args.base.now.feeds) (λ x y. StaysAt x.1 y.1)
    (λ x y same. record { feed = ap (λ z. z.1.pass.feed) same; cell = ap (λ z. z.1.pass.cell) same })
    (λ x y z first second. record { feed = second.feed ∙ first.feed; cell = second.cell ∙ first.cell })
    (λ x request last reply y step. step.stays_at)
    0 _ (c.args.desk.now, c.open.new.self) whole.exchanges whole.rest (c.serve_stream.new.shared, c.serve_stream.new.session) whole.run in
    record {
      feed = kept.feed ∙ ap (λ (session : SessionView). session.pass.feed) c.open.ensures;
      cell = kept.cell ∙ ap (λ (session : SessionView). session.pass.cell) c.open.ensures;
    }
