use Rattle.std.proofs.Common.{◌≡◌, ◌∙◌, sym, ap, arith}
use Rattle.feed_gen.specs.Draws.{start_of, state_after}
use Rattle.feed_gen.specs.Messages.{entity_at, place_of}
use Rattle.feed_gen.specs.Texts.{joined}
use Rattle.feed_gen.proofs.StepLemmas.{joined_more, place_more}
use Rattle.feed_gen.proofs.messages.entities.Goals as goal

pub loop-place-preserved : goal.loop-place-preserved
loop-place-preserved c =
    let seed = c.args.seed in
    let part = c.args.part in
    let at = place_of seed part c.loop-place.place in
    record {
      bytes = joined_more (entity_at seed part) c.loop-place.place _ _ _ c.loop-place.invariant.bytes (c.deref.ensures.value ∙ c.in_ok-more.ensures.bytes at c.loop-place.invariant.state) c.in_ok-extend_from_slice.ensures.items;
      state = c.in_ok-more.ensures.state at c.loop-place.invariant.state ∙ ap (state_after (start_of seed part)) (sym (place_more seed part c.loop-place.place));
    }

pub returns : goal.returns
returns c =
    let end : c.loop-place.place ≡ 20 = omega (arith, c.loop-place-test.false, c.loop-place.auto.place-end) in
    c.loop-place.invariant.bytes ∙ ap (joined (entity_at c.args.seed c.args.part)) end
