use Rattle.std.proofs.Common.{◌≡◌, ◌-◌, length, min}
use Rattle.feed_load.specs.Anchors.{IsReached}
use Rattle.otp_base.specs.EachAt.{EachAt}
use Rattle.feed_load.proofs.trip_calls.reached_from_each.Given as goal

abbrev pub invariant-loop-k : goal.invariant-loop-k
invariant-loop-k l = record {
  count : length l.list.items ≡ l.k;
  each : EachAt (λ k anchor. IsReached l.rows (length l.rows - 1 - k) anchor) l.list.items;
  nearest : IsReached l.rows (min (length l.rows - l.k) (length l.rows - 1)) l.nearest;
}
