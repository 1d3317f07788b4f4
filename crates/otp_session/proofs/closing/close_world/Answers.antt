use Rattle.std.proofs.Common.{slice_index_or, subst, sym}
use Rattle.otp_workers.specs.Served.{AllFit}
use Rattle.commit_desk.specs.Desks.{DeskView}
use Rattle.otp_session.specs.Closing.{HasMet}
use Rattle.otp_session.specs.Grounds.{IsAt, Place}
use Rattle.otp_session.proofs.closing.close_world.Goals as goal

pub meet_all-first-requires : goal.meet_all-first-requires
meet_all-first-requires g c = subst (λ (place : Place). AllFit (IsAt place) c.args.workers.now) (sym c.close-desk.ensures) c.requires

pub returns-clause-met : goal.returns-clause-met
returns-clause-met g c = λ i d less.
    subst (λ (desk : DeskView). HasMet {P = g.row.P.Denot} desk.state.history c.meet_all-first.result (slice_index_or c.args.workers.now i d) (slice_index_or c.meet_all-first.new.workers i d))
    (sym c.meet_all-first.ensures.desk) (c.meet_all-first.ensures.met i d less)
