use Rattle.std.proofs.Common.{◌≡◌, ◌∙◌, ap, arith}
use Rattle.feed_gen.specs.Tables.{call_rows}
use Rattle.feed_gen.specs.Texts.{joined}
use Rattle.feed_gen.proofs.StepLemmas.{joined_more}
use Rattle.feed_gen.proofs.calls.trips_along.Goals as goal

pub loop-trip-preserved : goal.loop-trip-preserved
loop-trip-preserved c = record {
  rows = joined_more (call_rows c.args.seed c.args.line) c.loop-trip.trip _ _ _ c.loop-trip.invariant.rows (c.deref.ensures ∙ c.in_ok-more.ensures.rows) c.in_ok-push_str.ensures.bytes;
  state = c.in_ok-more.ensures.state;
}

pub returns : goal.returns
returns c =
    let end : c.loop-trip.trip ≡ 100 = omega (arith, c.loop-trip-test.false, c.loop-trip.auto.trip-end) in
    c.loop-trip.invariant.rows ∙ ap (joined (call_rows c.args.seed c.args.line)) end
