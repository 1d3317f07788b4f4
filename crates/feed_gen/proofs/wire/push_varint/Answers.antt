use Rattle.std.proofs.Common.{◌∙◌, ◌++◌, ◌<◌, ◌-◌, sym, ap, arith}
use Rattle.feed_gen.proofs.StepLemmas.{varint_last, varint_turn}
use Rattle.feed_gen.proofs.wire.push_varint.Goals as goal

pub loop-left-preserved : goal.loop-left-preserved
loop-left-preserved c =
    let room = c.loop-left.invariant.room in
    record {
      room = room - 1;
      enough = omega (arith, c.loop-left.invariant.enough, c.loop-left-test.true);
      parts = varint_turn room c.loop-left.left c.loop-left.bytes.items _ _ c.loop-left.invariant.enough c.loop-left-test.true c.loop-left.invariant.parts c.in_ok-push.ensures.items;
    }

pub returns : goal.returns
returns c =
    let less : c.loop-left.left < 128 = omega (arith, c.loop-left-test.false) in
    c.in_ok-push-2.ensures.items ∙ ap (λ bytes. c.loop-left.bytes.items ++ bytes) (sym (varint_last c.loop-left.invariant.room c.loop-left.left less)) ∙ c.loop-left.invariant.parts
