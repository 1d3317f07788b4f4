use Rattle.std.proofs.Common.{◌≡◌, ◌∙◌, ◌+◌, suc, refl, sym, ap, subst, arith}
use Rattle.otp_base.proofs.EachAtLemmas.{each_read}
use Rattle.feed_gen.specs.Draws.{start_of, state_after}
use Rattle.feed_gen.specs.Lines.{before_trip, stop_of, time_of}
use Rattle.feed_gen.specs.Tables.{call_row}
use Rattle.feed_gen.specs.Texts.{joined}
use Rattle.feed_gen.proofs.StepLemmas.{call_row_is, draw_is, joined_first, joined_more, state_more, time_first, time_more}
use Rattle.feed_gen.proofs.calls.call_rows.Goals as goal

pub loop-call-init : goal.loop-call-init
loop-call-init c =
    let seed = c.args.seed in
    let line = c.args.line in
    let trip = c.args.trip in
    let state = state_more (start_of seed line) (before_trip trip) _ _ c.requires.state c.draw.ensures.state in
    let time = time_first seed line trip _ (draw_is seed line (before_trip trip) _ _ 300 state c.draw.ensures.value) in
    let stop = each_read (λ call stop. stop ≡ stop_of seed line call) c.args.stops.now 0 0 c.requires.each (omega (arith, c.requires.count)) in
    record {
      time = time;
      day = omega (arith, c.draw.ensures.less, c.requires.trip);
      rows = joined_first (call_row seed line trip) _ (c.in_ok-rows.ensures ∙ call_row_is seed line trip 0 _ _ _ 1 (c.deref.ensures ∙ c.in_ok-id.ensures) time stop refl);
      state = state ∙ ap (state_after (start_of seed line)) (omega arith);
    }

pub loop-call-preserved : goal.loop-call-preserved
loop-call-preserved c =
    let seed = c.args.seed in
    let line = c.args.line in
    let trip = c.args.trip in
    let call = c.loop-call.call in
    let state = state_more (start_of seed line) (before_trip trip + suc call) _ _ c.loop-call.invariant.state c.draw-in-loop-call.ensures.state in
    let on : suc call ≡ call + 1 = omega arith in
    let time = subst (λ k. c.loop-call.time + (60 + c.draw-in-loop-call.result) ≡ time_of seed line trip k) on
    (time_more seed line trip call _ _ c.loop-call.invariant.time (draw_is seed line (before_trip trip + suc call) _ _ 120 state c.draw-in-loop-call.ensures.value)) in
    let stop = each_read (λ call stop. stop ≡ stop_of seed line call) c.args.stops.now (call + 1) 0 c.requires.each (omega (arith, c.requires.count, c.loop-call-test.true)) in
    let row = c.in_ok-row.ensures ∙ call_row_is seed line trip (call + 1) _ _ _ (call + 2) (c.deref-in-loop-call.ensures ∙ c.in_ok-id.ensures) time stop (omega arith) in
    record {
      time = time;
      day = omega (arith, c.loop-call.invariant.day, c.draw-in-loop-call.ensures.less);
      rows = joined_more (call_row seed line trip) (suc call) _ _ _ c.loop-call.invariant.rows (c.deref-in-loop-call-2.ensures ∙ row ∙ ap (call_row seed line trip) (sym on)) c.in_ok-push_str.ensures.bytes ∙ ap (joined (call_row seed line trip)) (omega arith);
      state = state ∙ ap (state_after (start_of seed line)) (omega arith);
    }

pub returns-clause-rows : goal.returns-clause-rows
returns-clause-rows c =
    let end : suc c.loop-call.call ≡ 12 = omega (arith, c.loop-call-test.false, c.loop-call.auto.call-end) in
    c.loop-call.invariant.rows ∙ ap (joined (call_row c.args.seed c.args.line c.args.trip)) end

pub returns-clause-state : goal.returns-clause-state
returns-clause-state c =
    let end : before_trip c.args.trip + suc c.loop-call.call ≡ before_trip (c.args.trip + 1) = omega (arith, c.loop-call-test.false, c.loop-call.auto.call-end) in
    c.loop-call.invariant.state ∙ ap (state_after (start_of c.args.seed c.args.line)) end
