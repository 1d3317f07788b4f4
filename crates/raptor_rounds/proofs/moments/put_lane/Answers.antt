use Rattle.std.proofs.Common.{ℤ, List, subst, sym}
use Rattle.std.specs.List.{All}
use Rattle.otp_base.specs.Adds.{Adds, FromSome}
use Rattle.otp_model.specs.Ranges.{IsTime}
use Rattle.raptor_rounds.specs.Moments.{IsMomentBy}
use Rattle.raptor_rounds.proofs.MomentLemmas.{times_in_range}
use Rattle.raptor_rounds.proofs.moments.put_lane.Goals as goal

pub put_times-requires : goal.put_times-requires
put_times-requires c = subst (All IsTime) (sym c.departures.ensures) (times_in_range c.args.position c.args.lane.now.runs c.requires.lane.timely)

pub returns : goal.returns
returns c = subst (λ (times : List ℤ). Adds (FromSome (IsMomentBy c.args.request.now c.args.reach.now) times) c.args.moments.now.items c.put_times.new.moments.items) c.departures.ensures c.in_ok-put_times.ensures
