-- The words of `plan` that name real-time messages.
use Rattle.std.specs.Prelude.{ℕ, ◌≤◌, List, [], ◌∷◌, length, map, Option, Some, None, nat_lt, if◌then◌else◌}
use Rattle.otp_base.specs.Cut.{cut}
use Rattle.otp_base.specs.Number.{number_in}
use Rattle.otp_base.specs.Optionals.{◌>>=◌}
use Rattle.command_words.specs.Values.{equals}
use Rattle.command_words.specs.declared.messages.MessageWord.{MessageWord}

-- a real-time feed, by its number, and the file of a message of it
pub record AskedMessage : Type 0 where
  pub feed : ℕ
  pub name : List ℕ

abbrev pub named : ℕ → List ℕ → Option AskedMessage
named feed name = if nat_lt 0 (length name) then Some (record { feed = feed; name = name }) else None

-- N=NAME, cut at the first '=', where N is the number of one of so many feeds
abbrev pub message_in : ℕ → List ℕ → Option AskedMessage
message_in feeds word = do
  parts ← cut equals word
  feed ← number_in 1 feeds parts.0
  named feed parts.1

-- the messages that words name, if each word does
unfoldable pub messages_in : ℕ → List (List ℕ) → Option (List AskedMessage)
messages_in feeds [] = Some []
messages_in feeds (word ∷ words) = do
  message ← message_in feeds word
  messages ← messages_in feeds words
  Some (message ∷ messages)

-- what a word of the code stands for
abbrev pub asked_by : MessageWord → AskedMessage
asked_by word = record { feed = word.feed_no; name = word.name.now }

abbrev pub all_asked : List MessageWord → List AskedMessage
all_asked words = map asked_by words

-- the word names one of so many feeds
abbrev pub IsOf : ℕ → MessageWord → Type 0
IsOf feeds word = (1 ≤ word.feed_no) × (word.feed_no ≤ feeds)
