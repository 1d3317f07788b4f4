use Rattle.std.proofs.Common.{◌+◌, sym, subst, ◌∙◌, arith}
use Rattle.command_words.specs.Messages.{all_asked}
use Rattle.otp_server.specs.Messages.{IsAfterSome, IsStopped}
use Rattle.otp_server.proofs.TakenFacts.{after_more, some_after, stopped_at, told_after, word_of}
use Rattle.otp_server.proofs.messages.commit_words.Goals as goal

pub take_word-requires-clause-of : goal.take_word-requires-clause-of
take_word-requires-clause-of g c =
    word_of c.args.feeds _ c.args.words.now c.loop-place.place _ c.requires.words c.loop-place.invariant.feeds c.loop-place-test.true

pub take_word-requires-clause-after : goal.take_word-requires-clause-after
take_word-requires-clause-after g c =
    subst (λ n. IsAfterSome c.args.lookup.now n c.loop-place.committed) (sym c.loop-place.invariant.feeds)
    (some_after _ c.args.lookup.now c.args.feeds c.args.words.now c.loop-place.place c.loop-place-test.true c.loop-place.committed c.requires.few c.loop-place.invariant.after)

pub returns-in-Err-Untaken-clause-refused : goal.returns-in-Err-Untaken-clause-refused
returns-in-Err-Untaken-clause-refused g c =
    let files = g.F.Folder.files c.args.folder.now in
    let feed = c.args.lookup.now in
    let words = c.args.words.now in
    let place = c.loop-place.place in
    let less = c.loop-place-test.true in
    let kept = c.loop-place.committed in
    let so_far = c.loop-place.invariant in
    let after = told_after files feed c.args.feeds words place less kept so_far.after so_far.feeds in
    subst (IsStopped files (all_asked words) (place + 1)) (sym c.in-Err-Untaken.why-is)
    (stopped_at files feed c.args.feeds words place less _ _ kept c.in-Err-Untaken.field-0 c.in-Err-Untaken.why so_far.after so_far.unchanged
    (c.in-Err-Untaken.ensures.stops so_far.after.told after) c.in-Err-Untaken.field-0-is)

pub loop-place-preserved : goal.loop-place-preserved
loop-place-preserved g c =
    let files = g.F.Folder.files c.args.folder.now in
    let feed = c.args.lookup.now in
    let words = c.args.words.now in
    let place = c.loop-place.place in
    let less = c.loop-place-test.true in
    let kept = c.loop-place.committed in
    let so_far = c.loop-place.invariant in
    let after = told_after files feed c.args.feeds words place less kept so_far.after so_far.feeds in
    let more = after_more files feed c.args.feeds words place less _ _ kept c.take_word.new.committed so_far.after so_far.unchanged so_far.feeds (c.in-Ok.ensures.ok so_far.after.told after) in
    let early = so_far.later in
    let late = c.take_word.ensures.later in
    record {
      unchanged = c.take_word.ensures.unchanged ∙ so_far.unchanged;
      later = omega (arith, early, late);
      feeds = more.after.feeds_are;
      after = more;
    }
