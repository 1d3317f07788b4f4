use Rattle.std.proofs.Common.{◌≡◌, ℕ, ◌+◌, ◌-◌, length, min, subst, sym, arith}
use Rattle.std.proofs.lemmas.List.{length_push}
use Rattle.feed_load.specs.declared.gap.Anchor.{Anchor}
use Rattle.feed_load.specs.Anchors.{IsReached}
use Rattle.otp_base.proofs.EachAtLemmas.{each_push}
use Rattle.feed_load.proofs.trip_calls.reached_from_each.Goals as goal

pub loop-k-preserved : goal.loop-k-preserved
loop-k-preserved c =
    let rows = c.args.rows.now in
    let nearest = c.reached_from-nearest.result in
    let kept = c.loop-k.invariant in
    let here : IsReached rows (length rows - 1 - c.loop-k.k) nearest = c.reached_from-nearest.ensures in
    let next : length rows - 1 - c.loop-k.k ≡ min (length rows - (c.loop-k.k + 1)) (length rows - 1) = omega arith in
    rw c.in_ok-push.ensures.items (record {
      count = simp length_push (omega (arith, kept.count));
      each = each_push (λ (k : ℕ) (anchor : Anchor). IsReached rows (length rows - 1 - k) anchor) c.loop-k.list.items nearest kept.each
          (subst (λ (k : ℕ). IsReached rows (length rows - 1 - k) nearest) (sym kept.count) here);
      nearest = subst (λ (place : ℕ). IsReached rows place nearest) next here;
    })
