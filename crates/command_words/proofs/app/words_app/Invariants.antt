use Rattle.std.proofs.Common.{◌≡◌, codes}
use Rattle.clap.specs.Words.{app_of, new_app}
use Rattle.command_words.proofs.NameFacts.{with_first}
use Rattle.command_words.proofs.app.words_app.Given as goal

abbrev pub invariant-loop-name : goal.invariant-loop-name
invariant-loop-name l = app_of l.command ≡ with_first (new_app (codes "kegqova")) l.name-index l.name-items
