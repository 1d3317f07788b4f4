use Rattle.std.proofs.Common.{◌≡◌, suc, sym, subst, arith}
use Rattle.otp_base.proofs.EachAtLemmas.{each_push}
use Rattle.std.proofs.lemmas.List.{length_push}
use Rattle.feed_gen.specs.Draws.{start_of}
use Rattle.feed_gen.specs.Lines.{stop_of}
use Rattle.feed_gen.proofs.StepLemmas.{draw_is, state_more, stop_more}
use Rattle.feed_gen.proofs.lines.stops_of.Goals as goal

pub loop-draws-preserved : goal.loop-draws-preserved
loop-draws-preserved c =
    let seed = c.args.seed in
    let line = c.args.line in
    let hops = c.loop-draws.invariant.hops in
    let state = state_more (start_of seed line) (suc hops) _ _ c.loop-draws.invariant.state c.draw.ensures.state in
    let at = stop_more seed line hops _ _ _ c.loop-draws.invariant.at (draw_is seed line (suc hops) _ _ 4 state c.draw.ensures.value) c.hop-at.ensures in
    rw c.in_ok-push-2.ensures.items (record {
      hops = suc hops;
      few = omega (arith, c.loop-draws.invariant.count, c.loop-draws-test.true, c.len.ensures);
      count = omega (arith, length_push c.loop-draws.stops.items c.hop-at.result, c.loop-draws.invariant.count);
      at = at;
      each = each_push (λ call stop. stop ≡ stop_of seed line call) c.loop-draws.stops.items c.hop-at.result c.loop-draws.invariant.each
          (subst (λ k. c.hop-at.result ≡ stop_of seed line k) (sym c.loop-draws.invariant.count) at);
      state = state;
    })
