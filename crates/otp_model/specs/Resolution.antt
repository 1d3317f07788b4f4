-- What a message says of the runs of a feed (GTFS Realtime reference, TripUpdate and TripDescriptor), and which of its
-- entities are ignored. The nine reasons and their order are this project's own:
-- 1 it is marked deleted; 2 it has no trip update; 3 its relation is none that is read; 4 it has no trip_id; 5 the feed
-- lacks the trip, or has the one that is to be added; 6 it has no day; 7 no run of the feed is meant, or the day of an
-- added one is none of the horizon; 8 a delay or time is out of range, or the calls of an added run can't be told; 9 an
-- earlier entity of the message resolved for the same name.
use Rattle.std.specs.Prelude.{ℕ, ℤ, pos, ◌+ℤ◌, int_le, int_lt, List, [], ◌∷◌, length, map, Option, None, Some, Result, Ok, Err, Bool, true, false, not, nat_le, ◌==◌, ◌&&◌, ◌||◌, if◌then◌else◌, count_by}
use Rattle.std.specs.List.{AllPairs, find, flat_map, list_any, position_from, range_with_len}
use Rattle.std.specs.List.Sorted.{IsPermutation}
use Rattle.std.specs.Option.{option_map_or, option_map}
use Rattle.std.specs.Ordering.{is_eq}
use Rattle.std.specs.Str.{bytes_eq}
use Rattle.otp_base.specs.Results.{◌>>=◌}
use Rattle.otp_model.specs.Clock.{clock_of}
use Rattle.otp_model.specs.Day.{day_of}
use Rattle.otp_model.specs.LocalDays.{local_day_of}
use Rattle.otp_model.specs.Moves.{are_events, first_of, given_from, moved_calls, raised}
use Rattle.otp_model.specs.Names.{IsNameBelow, run_name_cmp}
use Rattle.otp_model.specs.declared.change.Change.{Change}
use Rattle.otp_model.specs.declared.message.Entity.{Entity}
use Rattle.otp_model.specs.declared.message.Message.{Message}
use Rattle.otp_model.specs.declared.message.StopUpdate.{StopUpdate}
use Rattle.otp_model.specs.declared.message.TripUpdate.{TripUpdate}
use Rattle.otp_model.specs.declared.run_name.RunName.{RunName}
use Rattle.otp_model.specs.declared.run_name.TripName.TheVariants.{Planned, Added}
use Rattle.otp_model.specs.declared.timetable.Call.{Call}
use Rattle.otp_model.specs.declared.timetable.Feed.{Feed}
use Rattle.otp_model.specs.declared.timetable.Run.{Run}
use Rattle.otp_model.specs.declared.timetable.Trip.{Trip}

abbrev pub is_same_name : RunName → RunName → Bool
is_same_name a b = is_eq (run_name_cmp a b)

-- what is there, or the reason why the entity is ignored
abbrev pub or_reason : {A : Type 0} → ℕ → Option A → Result A ℕ
or_reason reason None = Err reason
or_reason reason (Some x) = Ok x

abbrev pub passes_or : {A : Type 0} → ℕ → Bool → A → Result A ℕ
passes_or reason passed x = if passed then Ok x else Err reason

-- the relations of a trip that are read: 0 SCHEDULED, 3 CANCELED and 7 DELETED of a trip of the feed, 1 ADDED and
-- 8 NEW of one that it doesn't have
abbrev pub is_of_feed : ℕ → Bool
is_of_feed relation = (relation == 0) || ((relation == 3) || (relation == 7))

abbrev pub is_added : ℕ → Bool
is_added relation = (relation == 1) || (relation == 8)

-- the number of the trip of this id
abbrev pub trip_of : Feed → List ℕ → Option ℕ
trip_of feed id = position_from (λ (trip : Trip). bytes_eq trip.id id) 0 feed.trips

-- the day of service that an update is for: its start_date, or else the local day of the message
abbrev pub service_day_of : Feed → Option ℕ → TripUpdate → Option ℤ
service_day_of feed timestamp update =
    option_map_or day_of update.start_date (option_map_or (local_day_of feed.zone) timestamp None)

-- the run of this name
abbrev pub run_named : Feed → RunName → Option Run
run_named feed name = find (λ (run : Run). is_same_name run.name name) feed.runs

abbrev pub planned_name : ℕ → ℤ → Option ℕ → RunName
planned_name trip day start = record { trip = Planned trip; day = day; start = start }

-- The run of a trip on a day: the one without a start, or else the one that starts at this time of day.
abbrev pub run_meant : Feed → ℕ → ℤ → Option (List ℕ) → Option Run
run_meant feed trip day start_time =
    first_of (run_named feed (planned_name trip day None))
    (option_map_or (λ start. run_named feed (planned_name trip day (Some start))) (option_map_or clock_of start_time None) None)

-- the day is one of those over which the feed is loaded
abbrev pub is_in_horizon : Feed → ℤ → Bool
is_in_horizon feed day = int_le feed.first_day day && int_lt day (feed.first_day +ℤ pos feed.days)

-- a run of the feed with the calls that the updates move, or out of the schedule
abbrev pub changed_run : Feed → TripUpdate → Run → Change
changed_run feed update run = record {
  name = run.name;
  calls = if update.relation == 0 then Some (moved_calls feed.stops update.updates run.calls) else None;
}

-- what an update says of a run of the feed
abbrev pub judged_planned : Feed → Option ℕ → TripUpdate → Result Change ℕ
judged_planned feed timestamp update = do
  id ← or_reason 4 update.trip_id
  trip ← or_reason 5 (trip_of feed id)
  day ← or_reason 6 (service_day_of feed timestamp update)
  run ← or_reason 7 (run_meant feed trip day update.start_time)
  passes_or 8 (are_events update.updates) (changed_run feed update run)

-- the id of a trip to be added: some text that no trip of the feed has
abbrev pub is_new_trip : Feed → List ℕ → Bool
is_new_trip feed id = not (length id == 0) && option_map_or (λ (trip : ℕ). false) (trip_of feed id) true

-- at least two calls, and no more than a sequence counts
abbrev pub are_enough : List StopUpdate → Bool
are_enough updates = nat_le 2 (length updates) && nat_le (length updates) 4294967295

-- what an update says of a run that the feed doesn't have
abbrev pub judged_added : Feed → Option ℕ → TripUpdate → Result Change ℕ
judged_added feed timestamp update = do
  id ← or_reason 4 update.trip_id
  text ← passes_or 5 (is_new_trip feed id) id
  day ← or_reason 6 (service_day_of feed timestamp update)
  within ← passes_or 7 (is_in_horizon feed day) day
  updates ← passes_or 8 (are_events update.updates && are_enough update.updates) update.updates
  calls ← or_reason 8 (given_from feed.stops 1 updates)
  Ok (record { name = record { trip = Added text; day = within; start = None }; calls = Some (raised calls) })

abbrev pub judged_update : Feed → Option ℕ → TripUpdate → Result Change ℕ
judged_update feed timestamp update =
    if is_of_feed update.relation then judged_planned feed timestamp update
    else if is_added update.relation then judged_added feed timestamp update
    else Err 3

-- what an entity says by itself, or the least of the reasons 1 to 8 that holds
abbrev pub judged : Feed → Option ℕ → Entity → Result Change ℕ
judged feed timestamp entity = if entity.deleted then Err 1 else or_reason 2 entity.update >>= judged_update feed timestamp

abbrev pub has_run_name : List RunName → RunName → Bool
has_run_name names name = list_any (is_same_name name) names

-- the same where earlier entities resolved for these names
abbrev pub judged_after : List RunName → Result Change ℕ → Result Change ℕ
judged_after names (Err reason) = Err reason
judged_after names (Ok change) = if has_run_name names change.name then Err 9 else Ok change

abbrev pub names_after : List RunName → Result Change ℕ → List RunName
names_after names (Err reason) = names
names_after names (Ok change) = change.name ∷ names

-- what the entities say one after the other
unfoldable pub judged_from : Feed → Option ℕ → List RunName → List Entity → List (Result Change ℕ)
judged_from feed timestamp names [] = []
judged_from feed timestamp names (entity ∷ entities) =
    let answer = judged_after names (judged feed timestamp entity) in
    answer ∷ judged_from feed timestamp (names_after names answer) entities

abbrev pub judged_all : Feed → Message → List (Result Change ℕ)
judged_all feed message = judged_from feed message.timestamp [] message.entities

abbrev pub change_in : Result Change ℕ → List Change
change_in (Ok change) = change ∷ []
change_in (Err reason) = []

-- the changes that a message makes, in the order of its entities, no two of one name
abbrev pub changes_of : Feed → Message → List Change
changes_of feed message = flat_map change_in (judged_all feed message)

abbrev pub has_reason : ℕ → Result Change ℕ → Bool
has_reason reason (Ok change) = false
has_reason reason (Err other) = other == reason

-- how many entities are ignored for each of the nine reasons
abbrev pub ignored : Feed → Message → List ℕ
ignored feed message = map (λ reason. count_by (has_reason reason) (judged_all feed message)) (range_with_len 1 9)

-- the changes that a message makes, by rising name
pub record AreChangesOf (feed : Feed) (message : Message) (changes : List Change) : Type 0 where
  pub same : IsPermutation (changes_of feed message) changes
  pub rise : AllPairs (λ (a b : Change). IsNameBelow a.name b.name) changes

-- What a message says of a name: nothing, or the form of its run, which is out of the schedule or has these calls.
abbrev pub form : Feed → Message → RunName → Option (Option (List Call))
form feed message name = option_map (λ (change : Change). change.calls) (find (λ (change : Change). is_same_name change.name name) (changes_of feed message))
