-- What the texts of the options that `serve` alone has stand for.
use Rattle.std.specs.Prelude.{ℕ, ◌^◌, ◌≤◌, List, Option, Some, Bool, ◌&&◌, is_none, codes}
use Rattle.otp_base.specs.Optionals.{◌>>=◌}
use Rattle.command_words.specs.Values.{number_or, text_given}
use Rattle.command_words.specs.declared.serving.Serving.{Serving}
use Rattle.command_words.specs.declared.serving.ServingTexts.{ServingTexts}

-- their texts, where they are given
pub record Given : Type 0 where
  pub port : Option (List ℕ)
  pub workers : Option (List ℕ)
  pub connections : Option (List ℕ)

-- those that stand under these names
abbrev pub serving_given : (List ℕ → Option (List ℕ)) → Given
serving_given text_of = record { port = text_of (codes "port"); workers = text_of (codes "workers"); connections = text_of (codes "connections") }

-- those that the code holds
abbrev pub given_of : ServingTexts → Given
given_of texts = record { port = text_given texts.port; workers = text_given texts.workers; connections = text_given texts.connections }

abbrev pub none_given : Given → Bool
none_given given = is_none given.port && (is_none given.workers && is_none given.connections)

-- what they ask for, if each is a number in its range
unfoldable pub serving_in : Given → Option Serving
serving_in given = do
  port ← number_or 8080 0 65535 given.port
  workers ← number_or 8 1 64 given.workers
  connections ← number_or (2 ^ 40) 1 (2 ^ 40) given.connections
  Some (record { port = port; workers = workers; connections = connections })

abbrev pub IsInRange : Serving → Type 0
IsInRange serving = ((1 ≤ serving.workers) × (serving.workers ≤ 64)) × ((1 ≤ serving.connections) × (serving.connections ≤ 2 ^ 40))
