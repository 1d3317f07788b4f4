use Rattle.std.proofs.Common.{◌≡◌, Some, None, subst, arith}
use Rattle.otp_model.specs.Resolution.{trip_of}
use Rattle.otp_model.specs.declared.timetable.Feed.{Feed}
use Rattle.rt_resolve.proofs.LookupLemmas.{trip_missing, trip_there}
use Rattle.rt_resolve.proofs.lookup.Lookup.trip.Goals as goal

pub returns-then-place-len : goal.returns-then-place-len
returns-then-place-len c =
    subst (λ (feed : Feed). Some c.place-place.result ≡ trip_of feed c.args.id.now) c.self.view_is
    (trip_there c.self.inside.feed.now c.self.inside.index.now.trips c.self.inside.index.now.stops c.self.invariant c.args.id.now c.place-place.result c.place-place.ensures.place
    (omega (arith, c.len.ensures)))

pub returns-else-place-len : goal.returns-else-place-len
returns-else-place-len c =
    subst (λ (feed : Feed). None ≡ trip_of feed c.args.id.now) c.self.view_is
    (trip_missing c.self.inside.feed.now c.self.inside.index.now.trips c.self.inside.index.now.stops c.self.invariant c.args.id.now c.place-place.result c.place-place.ensures.place
    (omega (arith, c.len.ensures)))
