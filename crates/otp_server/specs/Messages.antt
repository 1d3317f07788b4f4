-- The real-time messages of a plan: which message each word brings, and why one is refused. A message is the body of a
-- file, a FeedMessage of the GTFS Realtime reference; each is a commit of its own. That an older message is refused, and
-- the greatest length of a file, are this project's own.
use Rattle.std.specs.Prelude.{◌≡◌, ℕ, suc, ◌<◌, ◌≤◌, ◌^◌, List, [], ◌∷◌, ◌++◌, length, map, get_or, Option, Some, None, IfSome, if◌then◌else◌, ◌==◌}
use Rattle.std.specs.List.{All}
use Rattle.std.specs.List.Sorted.{IsPermutation}
use Rattle.change_buffer.specs.Commits.{IsCommitted}
use Rattle.change_buffer.specs.Forms.{AreResolved}
use Rattle.change_buffer.specs.Offers.{above_of}
use Rattle.change_buffer.specs.declared.feed_state.FeedState.{FeedState}
use Rattle.command_words.specs.Messages.{AskedMessage, asked_by}
use Rattle.command_words.specs.declared.messages.MessageWord.{MessageWord}
use Rattle.otp_base.specs.Folder.{file_of}
use Rattle.otp_base.specs.declared.folder.FileEntry.{FileEntry}
use Rattle.otp_model.specs.Limits.{most_message_bytes}
use Rattle.otp_model.specs.Moves.{first_of}
use Rattle.otp_model.specs.Schedule.{sched}
use Rattle.otp_model.specs.declared.message.Commit.{Commit}
use Rattle.otp_model.specs.declared.message.Message.{Message}
use Rattle.otp_model.specs.declared.timetable.Feed.{Feed}
use Rattle.rt_reader.specs.Tables.{first_fault}
use Rattle.rt_reader.specs.Spelling.{SpellsMessage}
use Rattle.snapshot_store.specs.Snapshots.{runs_of}
use Rattle.otp_server.specs.declared.committed.Committed.{Committed}
use Rattle.otp_server.specs.declared.refusal.Untaken.{Untaken}
use Rattle.otp_server.specs.declared.refusal.Untaken.TheVariants as untaken
use Rattle.otp_server.specs.declared.refusal.Refusal.{Refusal}
use Rattle.otp_server.specs.declared.refusal.Refusal.TheVariants as refusal
use Rattle.otp_server.specs.declared.messages.Stop.{Stop}
use Rattle.otp_server.specs.declared.messages.Stop.TheVariants as stop

-- a message, and the number of its real-time feed
abbrev pub Told : Type 0
Told = ℕ × Message

-- one commit a message
abbrev pub commit_of : Told → Commit
commit_of told = record { messages = told ∷ [] }

abbrev pub history_of : List Told → List Commit
history_of told = map commit_of told

-- the timestamp of the last message of a feed that had one
abbrev pub timestamp_after : ℕ → Option ℕ → Told → Option ℕ
timestamp_after number kept told = if told.0 == number then first_of told.1.timestamp kept else kept

unfoldable pub timestamp_from : ℕ → Option ℕ → List Told → Option ℕ
timestamp_from number kept [] = kept
timestamp_from number kept (told ∷ more) = timestamp_from number (timestamp_after number kept told) more

abbrev pub timestamp_of : List Told → ℕ → Option ℕ
timestamp_of told number = timestamp_from number None told

-- the bytes of a file are these, and not too many
abbrev pub HasBody : Option (List ℕ) → (List ℕ → Type 0) → Type 0
HasBody file P = (bytes : List ℕ) × (file ≡ Some bytes) × (length bytes ≤ most_message_bytes) × P bytes

-- the file spells the message, where the folder tells its files
abbrev pub IsOfFile : Option (List FileEntry) → List ℕ → Message → Type 0
IsOfFile files name message = IfSome files (λ files. HasBody (file_of files name) (λ bytes. SpellsMessage bytes message))

-- the message that a word brings, once these were committed
pub record Brings (files : Option (List FileEntry)) (told : List Told) (asked : AskedMessage) (message : Message) : Type 0 where
  pub file : IsOfFile files asked.name message
  pub not_older : above_of (timestamp_of told asked.feed) message.timestamp ≡ None

-- the messages that words bring, one after the other, behind those that are told already
abbrev pub BringAll : Option (List FileEntry) → List Told → List AskedMessage → List Told → Type 0
BringAll files told [] now = now ≡ told
BringAll files told (asked ∷ words) now = (message : Message) × Brings files told asked message × BringAll files (told ++ (asked.feed, message) ∷ []) words now

-- why a word brings no message, once these were committed
abbrev pub IsUntaken : Option (List FileEntry) → List Told → AskedMessage → Untaken → Type 0
IsUntaken files told asked untaken.Missing = IfSome files (λ files. file_of files asked.name ≡ None)
IsUntaken files told asked untaken.Large = IfSome files (λ files. (bytes : List ℕ) × (file_of files asked.name ≡ Some bytes) × (most_message_bytes < length bytes))
IsUntaken files told asked (untaken.Older have) =
    (message : Message) × IsOfFile files asked.name message × (above_of (timestamp_of told asked.feed) message.timestamp ≡ Some have)
IsUntaken files told asked (untaken.Unread fault) = IfSome files (λ files. HasBody (file_of files asked.name) (λ bytes. first_fault bytes ≡ Some fault))

-- the first of the words that brings no message stands at this place, counted from 1
pub record IsStopped (files : Option (List FileEntry)) (words : List AskedMessage) (place : ℕ) (why : Untaken) : Type 0 where
  pub front : List AskedMessage
  pub asked : AskedMessage
  pub rest : List AskedMessage
  pub words_are : words ≡ front ++ asked ∷ rest
  pub place_is : place ≡ suc (length front)
  pub told : List Told
  pub brought : BringAll files [] front told
  pub untaken : IsUntaken files told asked why

-- the state of a buffer's feed that has accepted at most these messages, and has none pending
pub record IsSettled (told : List Told) (state : FeedState) : Type 0 where
  pub few : state.accepted ≤ length told
  pub none : state.pending ≡ None

-- what is kept once these messages were committed over a feed with so many real-time feeds
pub record IsAfter (feed : Feed) (feeds : ℕ) (told : List Told) (kept : Committed) : Type 0 where
  pub feeds_are : length kept.buffer ≡ feeds
  pub committed : IsCommitted kept.buffer (history_of told)
  pub resolved : AreResolved feed kept.buffer
  pub settled : All (IsSettled told) kept.buffer
  pub timestamps : (place : ℕ) (d : FeedState) → place < length kept.buffer → (get_or kept.buffer place d).timestamp ≡ timestamp_of told (suc place)
  pub stands : IsPermutation (sched feed (history_of told)) (runs_of kept.snapshot)

-- the same of some messages, few enough to be counted
pub record IsAfterSome (feed : Feed) (feeds : ℕ) (kept : Committed) : Type 0 where
  pub told : List Told
  pub few : length told < 2 ^ 40
  pub after : IsAfter feed feeds told kept

-- what is kept once the messages that words bring were committed
pub record IsAfterWords (files : Option (List FileEntry)) (feed : Feed) (feeds : ℕ) (words : List AskedMessage) (kept : Committed) : Type 0 where
  pub told : List Told
  pub brought : BringAll files [] words told
  pub after : IsAfter feed feeds told kept

-- ---- one word

-- the word names one of so many feeds
pub record IsWordOf (feeds : ℕ) (word : MessageWord) : Type 0 where
  pub first : 1 ≤ word.feed_no
  pub last : word.feed_no ≤ feeds

-- a message committed behind those that are told
pub record IsNext (feed : Feed) (feeds : ℕ) (told : List Told) (number : ℕ) (message : Message) (kept : Committed) : Type 0 where
  pub not_older : above_of (timestamp_of told number) message.timestamp ≡ None
  pub after : IsAfter feed feeds (told ++ (number, message) ∷ []) kept

-- the message that a word brings, committed
pub record IsTakenWord (files : Option (List FileEntry)) (feed : Feed) (feeds : ℕ) (told : List Told) (asked : AskedMessage) (kept : Committed) : Type 0 where
  pub message : Message
  pub brings : Brings files told asked message
  pub after : IsAfter feed feeds (told ++ (asked.feed, message) ∷ []) kept

-- the same of a word of the code
pub record IsTakenBy (files : Option (List FileEntry)) (feed : Feed) (feeds : ℕ) (told : List Told) (word : MessageWord) (kept : Committed) : Type 0 where
  pub taken : IsTakenWord files feed feeds told (asked_by word) kept

-- why a message is refused that was read
abbrev pub IsOlder : List Told → ℕ → Message → Stop → Type 0
IsOlder told number message (stop.Untaken (untaken.Older have)) = above_of (timestamp_of told number) message.timestamp ≡ Some have
IsOlder told number message (stop.Untaken why) = ⊥
IsOlder told number message stop.Read = ⊥
IsOlder told number message stop.Memory = Unit {0}

-- why bytes spell none
abbrev pub IsUnspelt : List ℕ → Stop → Type 0
IsUnspelt bytes (stop.Untaken (untaken.Unread fault)) = first_fault bytes ≡ Some fault
IsUnspelt bytes (stop.Untaken why) = ⊥
IsUnspelt bytes stop.Read = ⊥
IsUnspelt bytes stop.Memory = Unit {0}

-- why a file spells none
abbrev pub IsUnreadWord : Option (List FileEntry) → List ℕ → Untaken → Type 0
IsUnreadWord files name untaken.Missing = IfSome files (λ files. file_of files name ≡ None)
IsUnreadWord files name untaken.Large = IfSome files (λ files. (bytes : List ℕ) × (file_of files name ≡ Some bytes) × (most_message_bytes < length bytes))
IsUnreadWord files name (untaken.Older have) = ⊥
IsUnreadWord files name (untaken.Unread fault) = IfSome files (λ files. HasBody (file_of files name) (λ bytes. first_fault bytes ≡ Some fault))

abbrev pub IsUnreadFile : Option (List FileEntry) → List ℕ → Stop → Type 0
IsUnreadFile files name (stop.Untaken why) = IsUnreadWord files name why
IsUnreadFile files name stop.Read = Unit {0}
IsUnreadFile files name stop.Memory = Unit {0}

abbrev pub IsUntakenWord : Option (List FileEntry) → List Told → AskedMessage → Stop → Type 0
IsUntakenWord files told asked (stop.Untaken why) = IsUntaken files told asked why
IsUntakenWord files told asked stop.Read = Unit {0}
IsUntakenWord files told asked stop.Memory = Unit {0}

pub record IsUntakenBy (files : Option (List FileEntry)) (told : List Told) (word : MessageWord) (why : Stop) : Type 0 where
  pub untaken : IsUntakenWord files told (asked_by word) why

-- why the messages of a plan are not all taken
abbrev pub IsMessageFault : Option (List FileEntry) → List AskedMessage → Refusal → Type 0
IsMessageFault files words (refusal.Message place why) = IsStopped files words place why
IsMessageFault files words refusal.Read = Unit {0}
IsMessageFault files words refusal.Memory = Unit {0}
IsMessageFault files words refusal.Words = ⊥
IsMessageFault files words (refusal.Feed fault) = ⊥
IsMessageFault files words (refusal.Request fault) = ⊥
