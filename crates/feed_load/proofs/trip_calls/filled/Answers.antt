use Rattle.std.proofs.Common.{◌≡◌, ℕ, ◌-◌, ◌<◌, length, get_or, subst, sym, arith}
use Rattle.std.proofs.lemmas.List.{length_push}
use Rattle.feed_load.specs.declared.gap.Anchor.{Anchor}
use Rattle.feed_load.specs.Anchors.{IsReached}
use Rattle.feed_load.specs.Calls.{IsCallAt}
use Rattle.otp_base.proofs.EachAtLemmas.{each_push, each_read}
use Rattle.feed_load.proofs.trip_calls.filled.Goals as goal

pub call_at-call-requires-clause-reached : goal.call_at-call-requires-clause-reached
call_at-call-requires-clause-reached c =
    let rows = c.args.rows.now in
    let k : ℕ = length rows - 1 - c.loop-place.place in
    let few : k < length c.in_ok-reached.reached.items = omega (arith, c.in_ok-reached.ensures.count, c.loop-place-test.true) in
    let back : length rows - 1 - k ≡ c.loop-place.place = omega (arith, c.loop-place-test.true) in
    let at = each_read (λ (n : ℕ) (anchor : Anchor). IsReached rows (length rows - 1 - n) anchor) c.in_ok-reached.reached.items k c.index.result.now c.in_ok-reached.ensures.each few in
    subst (λ (anchor : Anchor). IsReached rows c.loop-place.place anchor) (sym c.index.ensures) (subst (λ (n : ℕ). IsReached rows n (get_or c.in_ok-reached.reached.items k c.index.result.now)) back at)

pub loop-place-preserved : goal.loop-place-preserved
loop-place-preserved c =
    let kept = c.loop-place.invariant in
    rw c.in_ok-push.ensures.items (record {
      count = simp length_push (omega (arith, kept.count));
      each = each_push (IsCallAt c.args.rows.now) c.loop-place.calls.items c.call_at-call.result kept.each
          (subst (λ (k : ℕ). IsCallAt c.args.rows.now k c.call_at-call.result) (sym kept.count) c.call_at-call.ensures);
      left = c.left_after-left.ensures;
    })
