use Rattle.std.proofs.Common.{List, ap, length, subst, rules, arith}
use Rattle.otp_model.specs.Plane.{IsPlaceOf}
use Rattle.otp_model.specs.declared.timetable.Stop.{Stop}
use Rattle.otp_model.proofs.journey.Request.can_search.Goals as goal

pub returns : goal.returns
returns c = (
  λ timely. record {
    timely = c.are_timely.ensures.0 timely;
    numbers = c.if-not-is_in_range.ensures.0 (search rules);
    walks = c.if-not-can_walk.ensures.0 (search rules);
    stops = omega (arith, ap length c.as_slice-stops.ensures);
    from = subst (λ (stops : List Stop). IsPlaceOf stops c.args.self.now.from) c.as_slice-stops.ensures (c.if-not-is_of.ensures.0 (search rules));
    to = subst (λ (stops : List Stop). IsPlaceOf stops c.args.self.now.to) c.as_slice-stops.ensures (c.if-not-is_of-2.ensures.0 (search rules));
  },
  λ can. c.are_timely.ensures.1 can.timely,
)
