use Rattle.std.proofs.Common.{◌≡◌, length}
use Rattle.otp_base.specs.EachAt.{EachAt}
use Rattle.walk_table.specs.Near.{IsStandingAt}
use Rattle.walk_table.proofs.near.standings_in_order.Given as goal

abbrev pub invariant-loop-number : goal.invariant-loop-number
invariant-loop-number l = record {
  count : length l.standings.items ≡ l.number;
  each : EachAt (IsStandingAt l.south l.stops) l.standings.items;
}
