use Rattle.std.proofs.Common.{sym, subst}
use Rattle.raptor_rounds.specs.declared.ready.Ready.{Ready}
use Rattle.raptor_rounds.specs.Scans.{IsStartedBy, StartsBy}
use Rattle.raptor_rounds.specs.States.{IsOpenAt}
use Rattle.raptor_rounds.proofs.SettleLemmas.{settles_none}
use Rattle.raptor_rounds.proofs.StartLemmas.{starts_nowhere}
use Rattle.raptor_rounds.proofs.start.start_by.Goals as goal

pub returns-in-None : goal.returns-in-None
returns-in-None g c =
    let t = c.args.timetable.now in
    let r = c.args.request.now in
    let d = c.args.departure.now in
    settles_none r d (StartsBy (g.T.Timetable.runs t) r d c.args.reach.now) (IsStartedBy (g.T.Timetable.blocks t) r d c.args.reach.now) c.args.state.now c.requires.open
    (starts_nowhere (g.T.Timetable.runs t) r d c.args.reach.now c.requires.timely c.in-None.ensures)

pub board-requires-clause-open : goal.board-requires-clause-open
board-requires-clause-open g c = subst (λ (b : Ready). IsOpenAt c.args.request.now b.departure c.args.state.now) (sym c.in-Some.ensures.ready_is) c.requires.open
