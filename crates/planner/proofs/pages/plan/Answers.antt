use Rattle.planner.proofs.EntryFacts.{left_entries}
use Rattle.planner.proofs.pages.plan.Goals as goal

pub returns-clause-entries : goal.returns-clause-entries
returns-clause-entries g c =
    left_entries (g.T.Timetable.runs c.args.timetable.now) c.args.edges.now c.args.request.now c.in_ok-best.best.items c.in_ok-page.page.found c.in_ok-best.ensures c.in_ok-page.ensures.found
