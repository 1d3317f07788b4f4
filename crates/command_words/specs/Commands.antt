-- The commands that words are.
use Rattle.std.specs.Prelude.{◌≡◌, ◌≤◌, ℕ, ◌&&◌, List, [], ◌∷◌, length, Option, Some, None, Result, Ok, Err, IsSomeAnd, nat_le, if◌then◌else◌, codes, option_map}
use Rattle.std.specs.List.{All}
use Rattle.std.specs.Str.{bytes_eq}
use Rattle.otp_base.specs.Optionals.{◌>>=◌}
use Rattle.otp_model.specs.Limits.{most_messages}
use Rattle.otp_model.specs.Ranges.{AreOptionsInRange}
use Rattle.otp_model.specs.declared.options.Options.{Options}
use Rattle.command_words.specs.Messages.{AskedMessage, IsOf, all_asked, messages_in}
use Rattle.command_words.specs.Serving.{Given, IsInRange, none_given, serving_given, serving_in}
use Rattle.command_words.specs.Words.{are_once, positionals_of, value_of}
use Rattle.command_words.specs.Values.{AreAsked, Asked, options_in}
use Rattle.command_words.specs.declared.serving.Serving.{Serving}
use Rattle.command_words.specs.declared.command.Command.{Command}
use Rattle.command_words.specs.declared.command.Command.TheVariants as commands
use Rattle.command_words.specs.declared.command.WordsFault.{WordsFault}
use Rattle.command_words.specs.declared.command.WordsFault.TheVariants as faults

-- `Words` comes where nothing is to be read; memory may run out
abbrev pub Refuses : {Y : Type 0} → Option Y → WordsFault → Type 0
Refuses read faults.Words = read ≡ None
Refuses read faults.Memory = Unit {0}

-- what words ask for
pub data Task : Type 0 where
  check : List ℕ → Asked → Task
  plan : List ℕ → List ℕ → List AskedMessage → Asked → Task
  serve : List ℕ → Asked → Serving → Task

-- the options among the words, each at most once
abbrev pub options_among : List (List ℕ) → Option Asked
options_among words = if are_once words then options_in (λ name. value_of name words) else None

-- a plan, if there are not too many words for messages and each names one
abbrev pub plan_with : List ℕ → List ℕ → List (List ℕ) → Asked → Option Task
plan_with folder query words asked =
    if nat_le (length words) most_messages then option_map (λ messages. plan folder query messages asked) (messages_in asked.feeds words) else None

-- a feed to be served, if the options of `serve` are in their ranges
abbrev pub serve_with : List ℕ → Given → Asked → Option Task
serve_with folder given asked = option_map (serve folder asked) (serving_in given)

-- `check FOLDER`, `plan FOLDER QUERY N=NAME ..` and `serve FOLDER`, of which `serve` alone has options of its own
abbrev pub task_on : List ℕ → List (List ℕ) → Given → Asked → Option Task
task_on name (folder ∷ []) given asked =
    if bytes_eq name (codes "serve") then serve_with folder given asked
    else (if bytes_eq name (codes "check") && none_given given then Some (check folder asked) else None)
task_on name (folder ∷ query ∷ words) given asked =
    if bytes_eq name (codes "plan") && none_given given then plan_with folder query words asked else None
task_on name _ given asked = None

-- what the words of a command line ask for, if they are a command: its name, and then its options and
-- positional words in any order
abbrev pub task_of : List (List ℕ) → Option Task
task_of [] = None
task_of (name ∷ words) = do
  positionals ← positionals_of words
  asked ← options_among words
  task_on name positionals (serving_given (λ name. value_of name words)) asked

-- the command is the task
abbrev pub IsTask : Command → Task → Type 0
IsTask (commands.Check on options) (check folder asked) = (on.now ≡ folder) × AreAsked asked options
IsTask (commands.Plan on of told options) (plan folder query messages asked) = (on.now ≡ folder) × (of.now ≡ query) × (all_asked told.items ≡ messages) × AreAsked asked options
IsTask (commands.Serve on options serving) (serve folder asked wanted) = (on.now ≡ folder) × (serving ≡ wanted) × AreAsked asked options
IsTask _ _ = ⊥

-- the command of a name and positional words with these options, or that they are none
abbrev pub IsCommandOf : List ℕ → List (List ℕ) → Given → Options → Result Command WordsFault → Type 0
IsCommandOf name positionals given options (Ok command) = (asked : Asked) → AreAsked asked options → IsSomeAnd (task_on name positionals given asked) (IsTask command)
IsCommandOf name positionals given options (Err fault) = (asked : Asked) → AreAsked asked options → Refuses (task_on name positionals given asked) fault

-- the same of `serve`
abbrev pub IsServeOf : List ℕ → Given → Options → Result Command WordsFault → Type 0
IsServeOf folder given options (Ok command) = (asked : Asked) → AreAsked asked options → IsSomeAnd (serve_with folder given asked) (IsTask command)
IsServeOf folder given options (Err fault) = (asked : Asked) → AreAsked asked options → Refuses (serve_with folder given asked) fault

abbrev pub HasRanges : Command → Type 0
HasRanges (commands.Check on options) = AreOptionsInRange options
HasRanges (commands.Plan on of told options) = AreOptionsInRange options × All (IsOf options.feeds) told.items × (length told.items ≤ most_messages)
HasRanges (commands.Serve on options serving) = AreOptionsInRange options × IsInRange serving
