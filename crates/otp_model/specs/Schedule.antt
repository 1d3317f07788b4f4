-- The schedule after a history of commits: each real-time feed is a full dataset, of which the last committed message
-- counts, and of two feeds that speak of one run that of the greater number (FeedHeader, FULL_DATASET, in the GTFS
-- Realtime reference; which feed wins is this project's own).
use Rattle.std.specs.Prelude.{◌≡◌, ◌≢◌, ℕ, suc, zero, max, List, [], ◌∷◌, ◌++◌, map, Option, None, Some, Bool, true, false, ◌==◌}
use Rattle.std.specs.List.{All, AllPairs, filter, find, flat_map, list_any, range_with_len}
use Rattle.std.specs.Option.{option_map, option_map_or}
use Rattle.std.specs.declared.cmp.Ordering.{Ordering}
use Rattle.std.specs.declared.cmp.Ordering.TheVariants.{Less, Equal, Greater}
use Rattle.otp_model.specs.Moves.{first_of}
use Rattle.otp_model.specs.Names.{IsNameBelow, run_name_cmp}
use Rattle.otp_model.specs.Resolution.{changes_of, form, is_same_name}
use Rattle.otp_model.specs.declared.change.Change.{Change}
use Rattle.otp_model.specs.declared.message.Commit.{Commit}
use Rattle.otp_model.specs.declared.message.Message.{Message}
use Rattle.otp_model.specs.declared.run_name.RunName.{RunName}
use Rattle.otp_model.specs.declared.run_name.TripName.{TripName}
use Rattle.otp_model.specs.declared.run_name.TripName.TheVariants.{Planned, Added}
use Rattle.otp_model.specs.declared.timetable.Call.{Call}
use Rattle.otp_model.specs.declared.timetable.Feed.{Feed}
use Rattle.otp_model.specs.declared.timetable.Run.{Run}

-- the message of a real-time feed in a commit, if it has one
abbrev pub message_in : ℕ → Commit → Option Message
message_in number commit = option_map (λ (m : ℕ × Message). m.1) (find (λ (m : ℕ × Message). m.0 == number) commit.messages)

-- the message of a real-time feed in the latest commit that has one, or else this one
unfoldable pub latest_or : Option Message → ℕ → List Commit → Option Message
latest_or before number [] = before
latest_or before number (commit ∷ history) = latest_or (first_of (message_in number commit) before) number history

abbrev pub latest : List Commit → ℕ → Option Message
latest history number = latest_or None number history

-- the greatest number of a real-time feed in a history, or 0
unfoldable pub most_in : List (ℕ × Message) → ℕ
most_in [] = 0
most_in (m ∷ messages) = max m.0 (most_in messages)

unfoldable pub most_feed : List Commit → ℕ
most_feed [] = 0
most_feed (commit ∷ history) = max (most_in commit.messages) (most_feed history)

-- what the real-time feed of this number says of a name after a history
abbrev pub form_by : Feed → List Commit → ℕ → RunName → Option (Option (List Call))
form_by feed history number name = option_map_or (λ message. form feed message name) (latest history number) None

-- what the feed of the greatest number says, of those up to a number that say something
unfoldable pub form_up_to : Feed → List Commit → ℕ → RunName → Option (Option (List Call))
form_up_to feed history zero name = form_by feed history 0 name
form_up_to feed history (suc number) name = first_of (form_by feed history (suc number) name) (form_up_to feed history number name)

abbrev pub form_after : Feed → List Commit → RunName → Option (Option (List Call))
form_after feed history name = form_up_to feed history (most_feed history) name

abbrev pub run_with : RunName → Option (List Call) → List Run
run_with name None = []
run_with name (Some calls) = record { name = name; calls = calls } ∷ []

-- a run of the feed in the form that it has after a history, if it is in the schedule
abbrev pub planned_run : Feed → List Commit → Run → List Run
planned_run feed history run = option_map_or (run_with run.name) (form_after feed history run.name) (run ∷ [])

-- a run that messages brought, if it is in the schedule
abbrev pub added_run : Feed → List Commit → RunName → List Run
added_run feed history name = option_map_or (run_with name) (form_after feed history name) []

-- names in their order, each once, with one more
unfoldable pub with_name : RunName → List RunName → List RunName
with_name name [] = name ∷ []
with_name name (other ∷ names) = placed (run_name_cmp name other) name other names (with_name name names)
  where
    placed : Ordering → RunName → RunName → List RunName → List RunName → List RunName
    placed Less name other names later = name ∷ other ∷ names
    placed Equal name other names later = other ∷ names
    placed Greater name other names later = other ∷ later

unfoldable pub in_order : List RunName → List RunName
in_order [] = []
in_order (name ∷ names) = with_name name (in_order names)

abbrev pub is_added_trip : TripName → Bool
is_added_trip (Planned trip) = false
is_added_trip (Added text) = true

abbrev pub added_in : Feed → Message → List RunName
added_in feed message = filter (λ (name : RunName). is_added_trip name.trip) (map (λ (change : Change). change.name) (changes_of feed message))

-- the added names for which the last message of some real-time feed has a form, rising
abbrev pub added_names : Feed → List Commit → List RunName
added_names feed history = in_order (flat_map (λ number. option_map_or (added_in feed) (latest history number) []) (range_with_len 0 (suc (most_feed history))))

-- the schedule after a history: the feed's runs in order, and then the added ones
abbrev pub sched : Feed → List Commit → List Run
sched feed history = flat_map (planned_run feed history) feed.runs ++ flat_map (added_run feed history) (added_names feed history)

-- the calls that a schedule has under a name, if it has a run of that name
abbrev pub calls_in : List Run → RunName → Option (List Call)
calls_in runs name = option_map (λ (run : Run). run.calls) (find (λ (run : Run). is_same_name run.name name) runs)

-- the names of which two schedules have different calls, rising, each with its calls in the later one
pub record AreDifferences (before now : List Run) (changes : List Change) : Type 0 where
  pub rise : AllPairs (λ (a b : Change). IsNameBelow a.name b.name) changes
  pub calls : All (λ (change : Change). calls_in now change.name ≡ change.calls) changes
  pub only : All (λ (change : Change). calls_in before change.name ≢ change.calls) changes
  pub whole : (name : RunName) → calls_in before name ≢ calls_in now name
      → list_any (λ (change : Change). is_same_name change.name name) changes ≡ true
