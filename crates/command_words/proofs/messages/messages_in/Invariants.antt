use Rattle.std.specs.Prelude.{◌≡◌, Some, length, map, take}
use Rattle.std.specs.List.{All}
use Rattle.command_words.specs.Messages.{IsOf, all_asked, messages_in}
use Rattle.command_words.proofs.messages.messages_in.Given as goal

abbrev pub invariant-loop-word : goal.invariant-loop-word
invariant-loop-word l = record {
  so_far : messages_in l.feeds (map (λ word. word.now) (take l.word-index l.words)) ≡ Some (all_asked l.messages.items);
  range : All (IsOf l.feeds) l.messages.items;
  count : length l.messages.items ≡ l.word-index;
}
