use Rattle.std.proofs.Common.{get_or}
use Rattle.reply_bodies.proofs.ValueFacts.{entry_of}
use Rattle.reply_bodies.proofs.plan.plan_body.Goals as goal

pub returns-clause-body : goal.returns-clause-body
returns-clause-body g c = λ k d within.
    let found = get_or c.in_ok-page.page.found k d in
    entry_of c.args.feed.now (g.T.Timetable.runs c.args.timetable.now) c.args.edges.now c.args.request.now c.requires.served c.requires.searchable.walks.reach c.args.number found c.requires.few c.requires.asked
    (c.in_ok-page.ensures.entries k d within)
