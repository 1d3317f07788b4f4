use Rattle.std.proofs.Common.{rules, tests}
use Rattle.std.proofs.lemmas.Iterator.{YieldsList-from_slice}
use Rattle.std.proofs.lemmas.Iterator.Search.{any_from_yields_List}
use Rattle.std.specs.Str.{bytes_eq}
use Rattle.command_words.specs.Words.{dashed}
use Rattle.command_words.proofs.words.is_option.Goals as goal

pub returns : goal.returns
returns c = any_from_yields_List (λ name. bytes_eq c.args.word.now (dashed name.now)) _ _ _ c.any.ensures.ran (YieldsList-from_slice _ c.iter.ensures.rest) (λ x b q k. search (rules, tests))
