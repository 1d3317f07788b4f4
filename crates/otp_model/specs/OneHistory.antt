-- What holds of every trace of events: there is one history, which each session sees grow.
use Rattle.std.specs.Prelude.{◌≡◌, ◌⊎◌, ℕ, ◌≤◌, List, [], ◌∷◌, ◌++◌, length, Option, None, Some, ◌==◌, if◌then◌else◌}
use Rattle.std.specs.List.{All, AllPairs, Contains, flat_map}
use Rattle.std.specs.Option.{option_map_or}
use mathlib.Core.List.{IsPrefix}
use Rattle.otp_model.specs.Core.{AnsweredOver, Accept, Answer, Core, Entry, Event, Extends, History, Offered, Open, Plan, Query, Response, Session, Silent, Take, Taken, Trace, trace_of}
use Rattle.otp_model.specs.Desk.{Accepted, Slot, slot_at}
use Rattle.otp_model.specs.declared.message.Commit.{Commit}
use Rattle.otp_model.specs.declared.message.Message.{Message}

-- the messages that stand under the number of a real-time feed
unfoldable pub under : ℕ → List (ℕ × Message) → List Message
under number [] = []
under number (m ∷ messages) = if number == m.0 then m.1 ∷ under number messages else under number messages

-- the messages of a feed in a history, in order
abbrev pub messages_of : ℕ → History → List Message
messages_of number history = flat_map (λ (commit : Commit). under number commit.messages) history

abbrev pub listed : Option Message → List Message
listed None = []
listed (Some message) = message ∷ []

-- what a feed has pending
abbrev pub pending_at : ℕ → List Slot → Option Message
pending_at number slots = option_map_or (λ (slot : Slot). slot.pending) (slot_at number slots) None

-- the messages of a feed in the published history, and then its pending one
abbrev pub messages_in : ℕ → Core → List Message
messages_in number core = messages_of number core.desk.history ++ listed (pending_at number core.desk.slots)

abbrev pub accepted_by : ℕ → Event → Response → List Message
accepted_by number (Accept feed message) (Offered (Accepted count)) = if number == feed then message ∷ [] else []
accepted_by number _ _ = []

-- the messages that a feed has accepted, in order
abbrev pub accepted_in : ℕ → List Entry → List Message
accepted_in number entries = flat_map (λ (entry : Entry). accepted_by number entry.event entry.response) entries

abbrev pub taken_by : ℕ → Event → Response → List History
taken_by session (Take other) (Taken history) = if session == other then history ∷ [] else []
taken_by session _ _ = []

-- the histories that a session took, in order
abbrev pub taken_in : ℕ → List Entry → List History
taken_in session entries = flat_map (λ (entry : Entry). taken_by session entry.event entry.response) entries

abbrev pub taken_after : ℕ → List History → Event → Response → List History
taken_after session taken (Open other) _ = if session == other then [] else taken
taken_after session taken event response = taken ++ taken_by session event response

unfoldable pub taken_since : ℕ → List History → List Entry → List History
taken_since session taken [] = taken
taken_since session taken (entry ∷ entries) = taken_since session (taken_after session taken entry.event entry.response) entries

-- the histories that a session took since it was last opened
abbrev pub taken_open : ℕ → List Entry → List History
taken_open session entries = taken_since session [] entries

abbrev pub last_of : {X : Type 0} → List X → Option X
last_of [] = None
last_of (x ∷ []) = Some x
last_of (x ∷ y ∷ xs) = last_of (y ∷ xs)

-- what is left of a list after some of it were struck out
abbrev pub IsPart : {X : Type 0} → List X → List X → Type 0
IsPart [] ys = Unit {0}
IsPart (x ∷ xs) [] = ⊥
IsPart (x ∷ xs) (y ∷ ys) = ((x ≡ y) × IsPart xs ys) ⊎ IsPart (x ∷ xs) ys

abbrev pub stamp_of : Message → List ℕ
stamp_of message = option_map_or (λ (time : ℕ). time ∷ []) message.timestamp []

abbrev pub stamps_of : List Message → List ℕ
stamps_of messages = flat_map stamp_of messages

abbrev pub IsPinnedTo : Query → History → Type 0
IsPinnedTo (Plan (Some number)) history = length history ≡ number
IsPinnedTo _ history = ⊥

-- A query is answered over the history of the last take since its session was opened, or over an earlier one since then that it is
-- pinned to; and it is answered wherever there was a take.
abbrev pub IsAnswered : List History → Query → Response → Type 0
IsAnswered taken query (AnsweredOver history) = (last_of taken ≡ Some history) ⊎ (IsPinnedTo query history × Contains taken history)
IsAnswered taken query Silent = taken ≡ []
IsAnswered taken query _ = ⊥

abbrev pub IsAnsweredAfter : List Entry → Event → Response → Type 0
IsAnsweredAfter before (Answer session query) response = IsAnswered (taken_open session before) query response
IsAnsweredAfter before _ response = Unit {0}

-- each query is answered so by what stands before it
unfoldable pub AreAnswered : List Entry → List Entry → Type 0
AreAnswered before [] = Unit {0}
AreAnswered before (entry ∷ entries) = IsAnsweredAfter before entry.event entry.response × AreAnswered (before ++ entry ∷ []) entries

-- what holds of a session: the histories that it knows or keeps begin the published one, and it took each kept one since it was
-- opened
pub record IsOneSession (published : History) (session : Session) (open_taken : List History) : Type 0 where
  pub known : Extends published session.known
  pub kept : Extends published session.kept
  pub recent : All (Contains open_taken) session.kept

-- what holds of a real-time feed: its committed messages and the pending one are accepted ones in their order, up to the last
-- accepted one, and no timestamp is below one before it
pub record IsOneFeed (messages accepted : List Message) : Type 0 where
  pub part : IsPart messages accepted
  pub last : last_of messages ≡ last_of accepted
  pub rise : AllPairs (λ (a b : ℕ). a ≤ b) (stamps_of accepted)

pub record IsOneHistory (trace : Trace) : Type 0 where
  pub sessions : (session : ℕ) → IsOneSession trace.core.desk.history (trace.core.sessions session) (taken_open session trace.entries)
  pub grow : (session : ℕ) → AllPairs IsPrefix (taken_in session trace.entries)
  pub feeds : (number : ℕ) → IsOneFeed (messages_in number trace.core) (accepted_in number trace.entries)
  pub answers : AreAnswered [] trace.entries

abbrev pub HasOneHistory : Type 0
HasOneHistory = (feeds : ℕ) (events : List Event) → IsOneHistory (trace_of feeds events)
