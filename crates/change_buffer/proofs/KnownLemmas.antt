-- Of which runs messages speak: runs of the feed, and added ones.
use Rattle.std.proofs.Common.{◌≡◌, ℕ, ℤ, true, ◌&&◌, List, Option, Some, None, Result, Ok, ◌⊎◌, inl, inr, refl, sym, ◌∙◌, ap, subst}
use Rattle.std.specs.Option.{option_map_or}
use Rattle.otp_model.specs.Clock.{clock_of}
use Rattle.otp_model.specs.Moves.{are_events, first_of, given_from, raised}
use Rattle.otp_model.specs.Resolution.{are_enough, changed_run, changes_of, is_in_horizon, is_new_trip, is_same_name, judged_added, judged_planned, or_reason, passes_or, planned_name, run_meant, run_named, service_day_of, trip_of}
use Rattle.otp_model.specs.Schedule.{is_added_trip}
use Rattle.otp_model.specs.declared.change.Change.{Change}
use Rattle.otp_model.specs.declared.message.Message.{Message}
use Rattle.otp_model.specs.declared.message.TripUpdate.{TripUpdate}
use Rattle.otp_model.specs.declared.run_name.RunName.{RunName}
use Rattle.otp_model.specs.declared.run_name.TripName.TheVariants.{Added}
use Rattle.otp_model.specs.declared.timetable.Feed.{Feed}
use Rattle.otp_model.specs.declared.timetable.Run.{Run}
use Rattle.otp_model.proofs.JudgedLemmas.{bind_ok, each_change, found_of, passed, there_is}
use Rattle.change_buffer.proofs.NamedLemmas.{named, named_of}
use Rattle.change_buffer.proofs.ShownLemmas.{run_name}

-- the name of an added run, or of a run of the feed
abbrev pub IsKnown : Feed → RunName → Type 0
IsKnown feed name = (is_added_trip name.trip ≡ true) ⊎ ((run : Run) × (run_named feed name ≡ Some run))

known_run : (feed : Feed) (name : RunName) (run : Run) → run_named feed name ≡ Some run → IsKnown feed run.name
known_run feed name run h = inr (run, subst (λ (n : RunName). run_named feed n ≡ Some run) (sym (named_of run_name name feed.runs run h)) h)

known_meant : (feed : Feed) (trip : ℕ) (day : ℤ) (start : Option (List ℕ)) (run : Run) → run_meant feed trip day start ≡ Some run → IsKnown feed run.name
known_meant feed trip day start run h =
    from (run_named feed (planned_name trip day None)) refl (option_map_or clock_of start None) h
  where
    later : (clock : Option ℕ) → option_map_or (λ (at : ℕ). run_named feed (planned_name trip day (Some at))) clock None ≡ Some run → IsKnown feed run.name
    later None e = absurd (let never : ◌≡◌ {A = Option Run} None (Some run) = e in cc)
    later (Some at) e = known_run feed (planned_name trip day (Some at)) run e

    from : (o : Option Run) → run_named feed (planned_name trip day None) ≡ o → (clock : Option ℕ)
        → first_of (run_named feed (planned_name trip day None)) (option_map_or (λ (at : ℕ). run_named feed (planned_name trip day (Some at))) clock None) ≡ Some run → IsKnown feed run.name
    from None n clock e = later clock (rw n at e)
    from (Some other) n clock e = known_run feed (planned_name trip day None) run (n ∙ (rw n at e))

known_planned : (feed : Feed) (timestamp : Option ℕ) (update : TripUpdate) (change : Change) → judged_planned feed timestamp update ≡ Ok change → IsKnown feed change.name
known_planned feed timestamp update change h =
    let id = bind_ok (or_reason 4 update.trip_id) _ change h in
    let trip = bind_ok (or_reason 5 (trip_of feed id.0)) _ change id.2 in
    let day = bind_ok (or_reason 6 (service_day_of feed timestamp update)) _ change trip.2 in
    let run = bind_ok (or_reason 7 (run_meant feed trip.0 day.0 update.start_time)) _ change day.2 in
    let is : changed_run feed update run.0 ≡ change = (passed 8 (are_events update.updates) (changed_run feed update run.0) change run.2).1 in
    subst (λ (c : Change). IsKnown feed c.name) is (known_meant feed trip.0 day.0 update.start_time run.0 (there_is 7 _ run.0 run.1))

known_added : (feed : Feed) (timestamp : Option ℕ) (update : TripUpdate) (change : Change) → judged_added feed timestamp update ≡ Ok change → IsKnown feed change.name
known_added feed timestamp update change h =
    let id = bind_ok (or_reason 4 update.trip_id) _ change h in
    let text = bind_ok (passes_or 5 (is_new_trip feed id.0) id.0) _ change id.2 in
    let day = bind_ok (or_reason 6 (service_day_of feed timestamp update)) _ change text.2 in
    let within = bind_ok (passes_or 7 (is_in_horizon feed day.0) day.0) _ change day.2 in
    let updates = bind_ok (passes_or 8 (are_events update.updates && are_enough update.updates) update.updates) _ change within.2 in
    let calls = bind_ok (or_reason 8 (given_from feed.stops 1 updates.0)) _ change updates.2 in
    let made : ◌≡◌ {A = Result Change ℕ} (Ok (record { name = record { trip = Added text.0; day = within.0; start = None }; calls = Some (raised calls.0) })) (Ok change) = calls.2 in
    let is : record { name = record { trip = Added text.0; day = within.0; start = None }; calls = Some (raised calls.0) } ≡ change = cc in
    inl (ap (λ (c : Change). is_added_trip c.name.trip) (sym is))

abbrev pub change_name : Change → RunName
change_name change = change.name

-- a message speaks of known runs alone
pub known : (feed : Feed) (message : Message) (name : RunName) (change : Change) → named change_name name (changes_of feed message) ≡ Some change → IsKnown feed name
known feed message name change h =
    let P : Change → Type 0 = λ (c : Change). IsKnown feed c.name in
    subst (IsKnown feed) (named_of change_name name (changes_of feed message) change h)
    (found_of P (λ (c : Change). is_same_name c.name name) (changes_of feed message) change
    (each_change P feed message (known_planned feed message.timestamp) (known_added feed message.timestamp)) h)
