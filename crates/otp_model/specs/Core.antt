-- The core: what all sessions share, what each of them knows, and the events that change it. A list of events is every
-- interleaving of updates, commits and requests.
use Rattle.std.specs.Prelude.{ℕ, List, [], ◌∷◌, ◌++◌, drop, length, Option, None, Some, Bool, true, false, nat_le, nat_lt, ◌==◌, if◌then◌else◌}
use Rattle.std.specs.List.{All, Any, find}
use mathlib.Core.List.{IsPrefix}
use Rattle.otp_model.specs.Desk.{Acceptance, DeskState, accepts, acceptance_by, commits, fresh_desk}
use Rattle.otp_model.specs.Moves.{first_of}
use Rattle.otp_model.specs.declared.message.Commit.{Commit}
use Rattle.otp_model.specs.declared.message.Message.{Message}

abbrev pub History : Type 0
History = List Commit

-- a history begins with each of those that are known
abbrev pub Extends : History → List History → Type 0
Extends history known = All (λ earlier. IsPrefix earlier history) known

-- a history is the beginning of one that is known
abbrev pub HasSeen : List History → History → Type 0
HasSeen known history = Any (λ later. IsPrefix history later) known

-- what a session has: the histories that its pass knows, those whose views it keeps for pinned pages, and whether it took a view
-- since it was opened
pub record Session : Type 0 where
  pub known : List History
  pub kept : List History
  pub taken : Bool

abbrev pub fresh_session : Session
fresh_session = record { known = []; kept = []; taken = false }

-- what of a request decides over which history it is answered: a plan may be pinned to the number of its cursor's commit
pub data Query : Type 0 where
  Status : Query
  Plan : (pinned : Option ℕ) → Query

-- how many views a session keeps
abbrev pub most_kept : ℕ
most_kept = 8

-- the kept history of a commit number
abbrev pub kept_at : ℕ → List History → Option History
kept_at number kept = find (λ (history : History). length history == number) kept

abbrev pub newest : List History → List History
newest kept = if nat_le (length kept) most_kept then kept else drop 1 kept

abbrev pub keep_unless : Option History → List History → History → List History
keep_unless (Some there) kept history = kept
keep_unless None kept history = newest (kept ++ history ∷ [])

-- the kept histories with one more, unless one of its length is there; of nine the first goes
abbrev pub keep : List History → History → List History
keep kept history = keep_unless (kept_at (length history) kept) kept history

abbrev pub first_known : List History → Option History
first_known [] = None
first_known (history ∷ known) = Some history

-- the kept history that a query is pinned to, if there is one
abbrev pub pinned_in : Query → List History → Option History
pinned_in Status kept = None
pinned_in (Plan None) kept = None
pinned_in (Plan (Some number)) kept = kept_at number kept

-- the history over which a session answers a query, which it does once it took a view
abbrev pub answered_over : Query → Session → Option History
answered_over query session = if session.taken then first_of (pinned_in query session.kept) (first_known session.known) else None

abbrev pub keep_known : List History → List History → List History
keep_known kept [] = kept
keep_known kept (history ∷ known) = keep kept history

-- a plan that isn't answered over a kept view keeps the view that it is answered over
abbrev pub keep_for : Query → Option History → Session → List History
keep_for Status pinned session = session.kept
keep_for (Plan number) (Some there) session = session.kept
keep_for (Plan number) None session = keep_known session.kept session.known

abbrev pub kept_after : Query → Session → List History
kept_after query session = if session.taken then keep_for query (pinned_in query session.kept) session else session.kept

pub record Core : Type 0 where
  pub desk : DeskState
  pub sessions : ℕ → Session

-- nothing is published or accepted, and no session knows anything
abbrev pub fresh_core : ℕ → Core
fresh_core feeds = record { desk = fresh_desk feeds; sessions = λ number. fresh_session }

pub data Event : Type 0 where
  Accept : (feed : ℕ) (message : Message) → Event
  Publish : Event
  Open : (session : ℕ) → Event
  Take : (session : ℕ) → Event
  Answer : (session : ℕ) (query : Query) → Event

-- What an event is answered: an offer by what becomes of it; a commit by the number of commits after it, and whether there is one
-- more; a take by the history that is taken; a query by the history over which its reply is defined.
pub data Response : Type 0 where
  Offered : (acceptance : Acceptance) → Response
  Published : (number : ℕ) (grew : Bool) → Response
  Taken : (history : History) → Response
  AnsweredOver : (history : History) → Response
  Silent : Response

-- the sessions once the one of a number is changed
abbrev pub with_session : ℕ → (Session → Session) → (ℕ → Session) → ℕ → Session
with_session number change sessions other = if other == number then change (sessions other) else sessions other

abbrev pub opened : Session → Session
opened session = record session { kept = []; taken = false }

abbrev pub taking : History → Session → Session
taking history session = record { known = history ∷ []; kept = session.kept; taken = true }

abbrev pub answering : Query → Session → Session
answering query session = record session { kept = kept_after query session }

-- the core after an event
abbrev pub after : Event → Core → Core
after (Accept feed message) core = record core { desk = accepts feed message core.desk }
after Publish core = record core { desk = commits core.desk }
after (Open session) core = record core { sessions = with_session session opened core.sessions }
after (Take session) core = record core { sessions = with_session session (taking core.desk.history) core.sessions }
after (Answer session query) core = record core { sessions = with_session session (answering query) core.sessions }

abbrev pub offered_response : Option Acceptance → Response
offered_response None = Silent
offered_response (Some acceptance) = Offered acceptance

abbrev pub answer_response : Option History → Response
answer_response None = Silent
answer_response (Some history) = AnsweredOver history

abbrev pub published_response : DeskState → DeskState → Response
published_response before now = Published (length now.history) (nat_lt (length before.history) (length now.history))

-- and what it is answered
abbrev pub response : Event → Core → Response
response (Accept feed message) core = offered_response (acceptance_by feed message core.desk)
response Publish core = published_response core.desk (commits core.desk)
response (Open session) core = Silent
response (Take session) core = Taken core.desk.history
response (Answer session query) core = answer_response (answered_over query (core.sessions session))

-- an event and what it was answered
pub record Entry : Type 0 where
  pub event : Event
  pub response : Response

pub record Trace : Type 0 where
  pub core : Core
  pub entries : List Entry

abbrev pub fresh_trace : ℕ → Trace
fresh_trace feeds = record { core = fresh_core feeds; entries = [] }

abbrev pub traced : Event → Trace → Trace
traced event trace = record {
  core = after event trace.core;
  entries = trace.entries ++ record { event = event; response = response event trace.core } ∷ [];
}

-- the trace of events one after the other, behind another trace
unfoldable pub trace_from : List Event → Trace → Trace
trace_from [] trace = trace
trace_from (event ∷ events) trace = trace_from events (traced event trace)

-- the trace of events from the beginning, with so many real-time feeds
abbrev pub trace_of : ℕ → List Event → Trace
trace_of feeds events = trace_from events (fresh_trace feeds)
