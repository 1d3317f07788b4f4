use Rattle.std.proofs.Common.{◌∙◌, ap, List, subst, sym}
use Rattle.otp_model.specs.declared.change.Change.{Change}
use Rattle.change_buffer.specs.Forms.{AreRising, HasRising, form_in}
use Rattle.change_buffer.specs.declared.feed_state.FeedState.{FeedState}
use Rattle.change_buffer.proofs.StepLemmas.{form_found, form_or, given_read}
use Rattle.change_buffer.proofs.forms.change_before.Goals as goal

pub change_named-requires : goal.change_named-requires
change_named-requires c =
    let rising : HasRising c.feed-item.result = subst HasRising (sym c.feed-item.is) (c.requires c.loop-feed.feed-index c.feed-item.result c.loop-feed-test.true) in
    subst AreRising (sym c.as_slice.ensures) rising.committed

pub loop-feed-preserved : goal.loop-feed-preserved
loop-feed-preserved c =
    let found = form_found c.change_named.result c.as_slice.result.now c.args.name.now c.change_named.ensures ∙ ap (λ (changes : List Change). form_in changes c.args.name.now) c.as_slice.ensures in
    form_or c.change_named.result c.loop-feed.last c.or-last.result c.or-last.ensures
    ∙ given_read (λ (state : FeedState). form_in state.said.committed c.args.name.now) _ _ c.args.feeds.now c.loop-feed.feed-index c.feed-item.result c.loop-feed-test.true c.feed-item.is found c.loop-feed.invariant
