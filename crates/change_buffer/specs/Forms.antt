-- What real-time feeds say of names by their committed messages and once the pending ones are committed, and the calls that
-- the schedule has by it.
use Rattle.std.specs.Prelude.{◌≡◌, List, [], ◌∷◌, ◌++◌, map, Option, None, Some, unwrap_or, Bool, true, false, ◌==◌, ◌&&◌, if◌then◌else◌}
use Rattle.std.specs.Cmp.Lexicographic.{pointwise}
use Rattle.std.specs.List.{All, AllPairs, Contains, find, flat_map}
use Rattle.std.specs.Option.{option_map}
use Rattle.std.specs.Ordering.{int_eq}
use Rattle.otp_model.specs.Moves.{first_of}
use Rattle.otp_model.specs.Names.{IsNameBelow}
use Rattle.otp_model.specs.Patterns.{is_same_flag}
use Rattle.otp_model.specs.Resolution.{AreChangesOf, is_same_name}
use Rattle.otp_model.specs.Schedule.{calls_in}
use Rattle.otp_model.specs.declared.change.Change.{Change}
use Rattle.otp_model.specs.declared.message.Message.{Message}
use Rattle.otp_model.specs.declared.run_name.RunName.{RunName}
use Rattle.otp_model.specs.declared.timetable.Call.{Call}
use Rattle.otp_model.specs.declared.timetable.Feed.{Feed}
use Rattle.change_buffer.specs.declared.feed_changes.FeedChanges.{FeedChanges}
use Rattle.change_buffer.specs.declared.feed_state.FeedState.{FeedState}

-- the changes that a message makes, by rising name; none where there is no message
abbrev pub AreSaid : Feed → Option Message → List Change → Type 0
AreSaid feed None changes = changes ≡ []
AreSaid feed (Some message) changes = AreChangesOf feed message changes

abbrev pub ArePending : Feed → Option Message → Option (List Change) → Type 0
ArePending feed None None = Unit {0}
ArePending feed None (Some changes) = ⊥
ArePending feed (Some message) None = ⊥
ArePending feed (Some message) (Some changes) = AreChangesOf feed message changes

-- the changes that are kept of a feed are those that its messages make
pub record IsResolved (feed : Feed) (state : FeedState) : Type 0 where
  pub committed : AreSaid feed state.committed state.said.committed
  pub pending : ArePending feed state.pending state.said.pending

-- the same of each feed
abbrev pub AreResolved : Feed → List FeedState → Type 0
AreResolved feed states = All (IsResolved feed) states

-- what a feed says once its pending message, if it has one, is committed
abbrev pub changes_now : FeedChanges → List Change
changes_now changes = unwrap_or changes.pending changes.committed

-- the same, as what it says by its committed message
abbrev pub changes_settled : FeedChanges → FeedChanges
changes_settled changes = record { committed = changes_now changes; pending = None }

-- the form of a name in changes, if they have one
abbrev pub form_in : List Change → RunName → Option (Option (List Call))
form_in changes name = option_map (λ (change : Change). change.calls) (find (λ (change : Change). is_same_name change.name name) changes)

-- what the last of those gives that give something
abbrev pub last_given : {X Y : Type 0} → (X → Option Y) → List X → Option Y
last_given give [] = None
last_given give (x ∷ xs) = first_of (last_given give xs) (give x)

abbrev pub form_before : List FeedState → RunName → Option (Option (List Call))
form_before states name = last_given (λ (state : FeedState). form_in state.said.committed name) states

abbrev pub form_now : List FeedState → RunName → Option (Option (List Call))
form_now states name = last_given (λ (state : FeedState). form_in (changes_now state.said) name) states

-- the calls of a form, or without one those of the feed
abbrev pub in_force : Option (Option (List Call)) → Option (List Call) → Option (List Call)
in_force None planned = planned
in_force (Some calls) planned = calls

abbrev pub calls_before : Feed → List FeedState → RunName → Option (List Call)
calls_before feed states name = in_force (form_before states name) (calls_in feed.runs name)

abbrev pub calls_now : Feed → List FeedState → RunName → Option (List Call)
calls_now feed states name = in_force (form_now states name) (calls_in feed.runs name)

abbrev pub is_same_call : Call → Call → Bool
is_same_call a b =
    (a.stop == b.stop) && ((a.seq == b.seq) && (int_eq a.arrival b.arrival && (int_eq a.departure b.departure
    && (is_same_flag a.board b.board && is_same_flag a.alight b.alight))))

abbrev pub are_same_calls : Option (List Call) → Option (List Call) → Bool
are_same_calls None None = true
are_same_calls None (Some others) = false
are_same_calls (Some calls) None = false
are_same_calls (Some calls) (Some others) = pointwise is_same_call calls others

-- the change of a name from calls to others
abbrev pub difference : RunName → Option (List Call) → Option (List Call) → List Change
difference name before now = if are_same_calls before now then [] else record { name = name; calls = now } ∷ []

-- the changes among these names
abbrev pub differences : Feed → List FeedState → List RunName → List Change
differences feed states names = flat_map (λ name. difference name (calls_before feed states name) (calls_now feed states name)) names

-- the names of which a feed may say something else once its pending message is committed
abbrev pub names_pending : List Change → Option (List Change) → List RunName
names_pending committed None = []
names_pending committed (Some pending) = map (λ (change : Change). change.name) committed ++ map (λ (change : Change). change.name) pending

abbrev pub names_changed : List FeedState → List RunName
names_changed states = flat_map (λ (state : FeedState). names_pending state.said.committed state.said.pending) states

-- names by rising order, each once, among which are all of which a feed may say something else
pub record AreNamesChanged (states : List FeedState) (names : List RunName) : Type 0 where
  pub rise : AllPairs IsNameBelow names
  pub whole : All (Contains names) (names_changed states)

-- changes by rising name
abbrev pub AreRising : List Change → Type 0
AreRising changes = AllPairs (λ (a b : Change). IsNameBelow a.name b.name) changes

-- each of the lists that are kept of a feed is by rising name
pub record HasRising (state : FeedState) : Type 0 where
  pub committed : AreRising state.said.committed
  pub now : AreRising (changes_now state.said)
