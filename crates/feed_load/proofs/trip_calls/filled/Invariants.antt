use Rattle.std.proofs.Common.{◌≡◌, length}
use Rattle.feed_load.specs.Anchors.{IsLeft}
use Rattle.otp_base.specs.EachAt.{EachAt}
use Rattle.feed_load.specs.Calls.{IsCallAt}
use Rattle.feed_load.proofs.trip_calls.filled.Given as goal

abbrev pub invariant-loop-place : goal.invariant-loop-place
invariant-loop-place l = record {
  count : length l.calls.items ≡ l.place;
  each : EachAt (IsCallAt l.rows) l.calls.items;
  left : IsLeft l.rows l.place l.left;
}
