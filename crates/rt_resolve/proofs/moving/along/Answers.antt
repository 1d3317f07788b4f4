use Rattle.std.proofs.Common.{◌+◌, map, drop, List, ap, ◌∙◌}
use Rattle.otp_model.specs.Moves.{moved_from}
use Rattle.otp_model.specs.declared.timetable.Call.{Call}
use Rattle.rt_resolve.specs.Courses.{with_calls}
use Rattle.rt_resolve.specs.Meaning.{meant_of}
use Rattle.rt_resolve.specs.Moving.{moved_of}
use Rattle.rt_resolve.proofs.MovingLemmas.{none_moved, one_moved}
use Rattle.rt_resolve.proofs.moving.along.Goals as goal

pub loop-place-preserved : goal.loop-place-preserved
loop-place-preserved c =
    let calls = c.args.calls.now in
    let place = c.loop-place.place in
    let left = map meant_of c.behind-left.result.now in
    let moved = c.moved_at-moved.result in
    let rest = moved_from moved.delay.seconds (place + 1) left (drop (place + 1) calls) in
    let step = one_moved c.loop-place.delay.seconds place (map meant_of c.loop-place.left.now) left calls _ _ (moved_of moved) c.loop-place-test.true
    c.here.ensures.same c.behind-left.ensures.same c.moved_at-moved.ensures in
    record {
      so_far = c.in_ok-push.ensures rest ∙ ap (λ (behind : List Call). with_calls c.loop-place.course behind) step ∙ c.loop-place.invariant.so_far;
      events = c.behind-left.ensures.events c.loop-place.invariant.events;
    }

pub returns : goal.returns
returns c =
    c.finish.ensures
    ∙ ap (λ (behind : List Call). with_calls c.loop-place.course behind)
    (none_moved c.loop-place.delay.seconds c.loop-place.place (map meant_of c.loop-place.left.now) c.args.calls.now c.loop-place-test.false)
    ∙ c.loop-place.invariant.so_far
