use Rattle.std.proofs.Common.{rules, tests, map, string_bytes}
use Rattle.std.proofs.lemmas.Iterator.{YieldsList-from_slice}
use Rattle.std.proofs.lemmas.Iterator.Search.{all_from_yields_List}
use Rattle.command_words.specs.Words.{is_once}
use Rattle.command_words.proofs.words.are_once.Goals as goal

pub returns : goal.returns
returns c = all_from_yields_List (λ name. is_once (map string_bytes c.args.words.now) name.now) _ _ _ c.all.ensures.ran (YieldsList-from_slice _ c.iter.ensures.rest) (λ x b q k. search (rules, tests))
