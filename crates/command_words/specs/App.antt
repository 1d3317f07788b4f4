-- The options and the positional words of a command, as `clap` is told of them and gives them.
use Rattle.std.specs.Prelude.{List, [], Option, Some, codes, fold, unwrap_or}
use Rattle.clap.specs.Words.{App, Row, Rule, Text, all_of, first_value, found_of, new_app, new_rule}
use Rattle.clap.specs.Simple.{with_rule}
use Rattle.clap.specs.declared.builder.ArgAction.TheVariants.{Set, Append}
use Rattle.clap.specs.declared.parser.matches.ArgMatches.{ArgMatches}
use Rattle.command_words.specs.Words.{option_names}

-- an option of one value, whose long name is its id
abbrev pub option_rule : Text → Rule
option_rule name = record (new_rule name) { long = Some name; action = Some Set }

-- positional words, as many as there are
abbrev pub positional_rule : Rule
positional_rule = record (new_rule (codes "words")) { action = Some Append }

abbrev pub with_option : App → Text → App
with_option app name = with_rule app (option_rule name)

abbrev pub words_app : App
words_app = with_rule (fold with_option (new_app (codes "kegqova")) option_names) positional_rule

-- the value of an option, and the positional words, among what clap found
abbrev pub found_text : ArgMatches → Text → Option Text
found_text matches name = first_value (found_of matches) name

abbrev pub found_words : List Row → List Text
found_words rows = unwrap_or (all_of (codes "words") rows) []
