use Rattle.std.proofs.Common.{[], ◌∷◌, length, ◌+◌, ap, refl, ◌∙◌}
use Rattle.std.proofs.lemmas.List.{length-append}
use Rattle.std.proofs.lemmas.List.Elements.{All-nil, All-push}
use Rattle.command_words.specs.Messages.{IsOf, messages_in}
use Rattle.command_words.proofs.MessageFacts.{read_more, read_none}
use Rattle.command_words.proofs.messages.messages_in.Goals as goal

pub loop-word-init : goal.loop-word-init
unfolding messages_in
loop-word-init c = rw c.new-messages.ensures.items (record { so_far = refl; range = All-nil (IsOf c.args.feeds); count = refl })

pub returns-in_default-clause-refuses : goal.returns-in_default-clause-refuses
returns-in_default-clause-refuses c =
    read_none c.args.feeds c.args.words.now c.loop-word.word-index _ c.loop-word.messages.items c.message_in.result c.loop-word-test.true c.loop-word.invariant.so_far
    c.message_in.ensures.message c.in_default.is

pub loop-word-preserved : goal.loop-word-preserved
loop-word-preserved c = record {
  so_far = read_more c.args.feeds c.args.words.now c.loop-word.word-index _ c.loop-word.messages.items c.push.new.self.items c.in-Some.message c.message_in.result
      c.loop-word-test.true c.loop-word.invariant.so_far c.message_in.ensures.message c.in-Some.is c.in_ok-push.ensures.items;
  range = rw c.in_ok-push.ensures.items (All-push (IsOf c.args.feeds) c.loop-word.messages.items c.in-Some.message c.loop-word.invariant.range c.in-Some.ensures.range);
  count = ap length c.in_ok-push.ensures.items ∙ length-append c.loop-word.messages.items (c.in-Some.message ∷ []) ∙ ap (λ n. n + 1) c.loop-word.invariant.count;
}
