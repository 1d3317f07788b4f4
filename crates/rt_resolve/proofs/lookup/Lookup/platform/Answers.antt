use Rattle.std.proofs.Common.{◌≡◌, ◌<◌, ◌≤◌, length, get_or, List, Some, None, Bool, true, false, cond, refl, sym, ap, subst, ◌∙◌}
use Rattle.std.specs.Prelude.{◌==◌}
use Rattle.std.proofs.lemmas.Bool.{ne_eqb}
use Rattle.otp_model.specs.Moves.{platform_of}
use Rattle.otp_model.specs.declared.timetable.Feed.{Feed}
use Rattle.otp_model.specs.declared.timetable.Stop.{Stop}
use Rattle.rt_resolve.proofs.LookupLemmas.{platform_missing, platform_there}
use Rattle.rt_resolve.proofs.lookup.Lookup.platform.Goals as goal

pub returns-in_err-stop : goal.returns-in_err-stop
returns-in_err-stop c =
    let over = subst (λ (stops : List Stop). length stops ≤ c.place-place.result) c.as_slice.ensures c.in_err-stop.ensures.lookup.3 in
    c.from_residual.ensures
    ∙ subst (λ (feed : Feed). None ≡ platform_of feed.stops c.args.id.now) c.self.view_is
    (platform_missing c.self.inside.feed.now c.self.inside.index.now.trips c.self.inside.index.now.stops c.self.invariant c.args.id.now c.place-place.result c.place-place.ensures.place over)

pub returns-then-stop-eq-PLATFORM : goal.returns-then-stop-eq-PLATFORM
returns-then-stop-eq-PLATFORM c =
    let less = subst (λ (stops : List Stop). c.place-place.result < length stops) c.as_slice.ensures c.in_ok-stop.ensures.lookup.3.0 in
    let is = subst (λ (stops : List Stop). c.in_ok-stop.stop.now ≡ get_or stops c.place-place.result c.in_ok-stop.stop.now) c.as_slice.ensures c.in_ok-stop.ensures.lookup.1 in
    let kind : (c.in_ok-stop.stop.now.kind == 0) ≡ true = rw c.if-stop-eq-PLATFORM.true refl in
    ap (λ (b : Bool). cond b (Some c.place-place.result) None) (sym kind)
    ∙ subst (λ (feed : Feed). cond (c.in_ok-stop.stop.now.kind == 0) (Some c.place-place.result) None ≡ platform_of feed.stops c.args.id.now) c.self.view_is
    (platform_there c.self.inside.feed.now c.self.inside.index.now.trips c.self.inside.index.now.stops c.self.invariant c.args.id.now c.place-place.result c.in_ok-stop.stop.now c.place-place.ensures.place less is)

pub returns-else-stop-eq-PLATFORM : goal.returns-else-stop-eq-PLATFORM
returns-else-stop-eq-PLATFORM c =
    let less = subst (λ (stops : List Stop). c.place-place.result < length stops) c.as_slice.ensures c.in_ok-stop.ensures.lookup.3.0 in
    let is = subst (λ (stops : List Stop). c.in_ok-stop.stop.now ≡ get_or stops c.place-place.result c.in_ok-stop.stop.now) c.as_slice.ensures c.in_ok-stop.ensures.lookup.1 in
    let kind : (c.in_ok-stop.stop.now.kind == 0) ≡ false = ne_eqb c.in_ok-stop.stop.now.kind 0 c.if-stop-eq-PLATFORM.false in
    ap (λ (b : Bool). cond b (Some c.place-place.result) None) (sym kind)
    ∙ subst (λ (feed : Feed). cond (c.in_ok-stop.stop.now.kind == 0) (Some c.place-place.result) None ≡ platform_of feed.stops c.args.id.now) c.self.view_is
    (platform_there c.self.inside.feed.now c.self.inside.index.now.trips c.self.inside.index.now.stops c.self.invariant c.args.id.now c.place-place.result c.in_ok-stop.stop.now c.place-place.ensures.place less is)
