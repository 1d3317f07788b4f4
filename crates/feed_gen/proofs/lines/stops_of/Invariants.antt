use Rattle.std.proofs.Common.{◌≡◌, ℕ, ◌≤◌, ◌-◌, suc, length}
use Rattle.otp_base.specs.EachAt.{EachAt}
use Rattle.feed_gen.specs.Draws.{start_of, state_after}
use Rattle.feed_gen.specs.Lines.{stop_of}
use Rattle.feed_gen.proofs.lines.stops_of.Given as goal

abbrev pub invariant-loop-draws : goal.invariant-loop-draws
invariant-loop-draws l = record {
  hops : ℕ;
  few : hops ≤ 11;
  count : length l.stops.items ≡ suc hops;
  at : l.at ≡ stop_of l.seed l.line hops;
  each : EachAt (λ call stop. stop ≡ stop_of l.seed l.line call) l.stops.items;
  state : l.draws.state ≡ state_after (start_of l.seed l.line) (suc hops);
}

abbrev pub decreases-loop-draws : goal.decreases-loop-draws
decreases-loop-draws l = 12 - length l.stops.items
