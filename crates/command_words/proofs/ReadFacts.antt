-- What words ask for, from what was read of them.
use Rattle.std.proofs.Common.{◌≡◌, ◌∙◌, ℕ, Bor, List, [], Option, Some, None, map, option_map, refl, ap}
use Rattle.std.specs.Prelude.{IfErr, IfOk, IsSomeAnd, Result, Ok, Err, unwrap_or}
use Rattle.otp_base.specs.Optionals.{◌>>=◌}
use Rattle.otp_model.specs.declared.options.Options.{Options}
use Rattle.command_words.specs.Commands.{IsCommandOf, IsTask, Refuses, Task, task_on}
use Rattle.command_words.specs.Serving.{Given}
use Rattle.command_words.specs.Values.{AreAsked, Asked}
use Rattle.command_words.specs.declared.command.Command.{Command}
use Rattle.command_words.specs.declared.command.WordsFault.{WordsFault}
use Rattle.command_words.specs.declared.command.WordsFault.TheVariants as faults

-- the positional words that clap found, or none where it found none
pub found-positionals : (given : Option (Bor (List (Bor (List ℕ))))) (none found : Bor (List (Bor (List ℕ)))) (values : Option (List (List ℕ))) → none.now ≡ []
    → found ≡ unwrap_or given none → option_map (λ list. map (λ word. word.now) list.now) given ≡ values → map (λ word. word.now) found.now ≡ unwrap_or values []
found-positionals None none found values empty is e = rw (is, empty, ← e) refl
found-positionals (Some list) none found values empty is e = rw (is, ← e) refl

-- no options, so no task
pub no-options : (read : Option Asked) (next : Asked → Option Task) (task : Option Task) (e : WordsFault) → task ≡ (read >>= next) → Refuses read e → Refuses task e
no-options read next task faults.Words is none = is ∙ ap (λ asked. asked >>= next) none
no-options read next task faults.Memory is none = tt

-- what a command of this name and these positional words is, or that there is none, said of the words
pub a-command : (read : Option Asked) (name given : List ℕ) (positionals on : List (List ℕ)) (options : Options) (texts : Given) (answer : Result Command WordsFault) (task : Option Task)
    → task ≡ (read >>= task_on name positionals texts) → given ≡ name → on ≡ positionals → IsSomeAnd read (λ asked. AreAsked asked options)
    → IsCommandOf given on texts options answer → IfOk answer (λ command. IsSomeAnd task (IsTask command)) × IfErr answer (Refuses task)
a-command None name given positionals on options texts answer task is named same asked of = absurd asked
a-command (Some asked) name given positionals on options texts (Ok command) task is named same are of = (rw (is, ← named, ← same) (of asked are), tt)
a-command (Some asked) name given positionals on options texts (Err fault) task is named same are of = (tt, rw (is, ← named, ← same) (of asked are))
