-- What an entity says, taken apart, and what holds of each change of a message.
use Rattle.std.proofs.Common.{◌≡◌, ℕ, suc, ℤ, pos, ◌+ℤ◌, int_le, int_lt, List, [], ◌∷◌, length, Bool, true, false, ◌&&◌, ◌==◌, if◌then◌else◌, Option, Some, None, IfSome, Result, Ok, Err, refl, sym, ap, subst, ◌∙◌, arith}
use Rattle.std.specs.List.{All, find, flat_map}
use Rattle.std.specs.Option.{option_map_or}
use Rattle.std.proofs.lemmas.Int.{ints}
use Rattle.std.proofs.lemmas.List.Elements.{All-append, All-cons, All-nil}
use Rattle.otp_base.specs.Results.{◌>>=◌}
use Rattle.otp_model.specs.Clock.{clock_of}
use Rattle.otp_model.specs.Moves.{are_events, first_of, given_from, moved_calls, raised}
use Rattle.otp_model.specs.Ranges.{IsServiceDay}
use Rattle.otp_model.specs.Resolution.{are_enough, change_in, changed_run, changes_of, has_run_name, is_added, is_in_horizon, is_new_trip, is_of_feed, is_same_name, judged, judged_added, judged_after, judged_from, judged_planned, judged_update, names_after, or_reason, passes_or, planned_name, run_meant, run_named, service_day_of, trip_of}
use Rattle.otp_model.specs.Sound.{IsServedTrip, IsSound, IsSoundCall, IsSoundRun}
use Rattle.otp_model.specs.declared.change.Change.{Change}
use Rattle.otp_model.specs.declared.message.Entity.{Entity}
use Rattle.otp_model.specs.declared.message.Message.{Message}
use Rattle.otp_model.specs.declared.message.TripUpdate.{TripUpdate}
use Rattle.otp_model.specs.declared.run_name.RunName.{RunName}
use Rattle.otp_model.specs.declared.run_name.TripName.TheVariants.{Added}
use Rattle.otp_model.specs.declared.timetable.Call.{Call}
use Rattle.otp_model.specs.declared.timetable.Feed.{Feed}
use Rattle.otp_model.specs.declared.timetable.Run.{Run}
use Rattle.otp_model.proofs.ServedLemmas.{AreCourse, both, given_course, moved_course}

pub by_test : {P : Type 0} (b : Bool) → (b ≡ true → P) → (b ≡ false → P) → P
by_test true t f = t refl
by_test false t f = f refl

pub bind_ok : {A B E : Type 0} (r : Result A E) (f : A → Result B E) (y : B) → (r >>= f) ≡ Ok y → (x : A) × (r ≡ Ok x) × (f x ≡ Ok y)
bind_ok (Ok x) f y e = (x, refl, e)
bind_ok (Err d) f y e = absurd cc

pub passed : {A : Type 0} (reason : ℕ) (b : Bool) (x y : A) → passes_or reason b x ≡ Ok y → (b ≡ true) × (x ≡ y)
passed reason true x y e = (refl, cc)
passed reason false x y e = absurd cc

pub there_is : {A : Type 0} (reason : ℕ) (o : Option A) (x : A) → or_reason reason o ≡ Ok x → o ≡ Some x
there_is reason None x e = absurd cc
there_is reason (Some y) x e = let same : y ≡ x = cc in ap (λ (z : _). Some z) same

-- a fact of whatever entities say holds of each change of a message
module _ (P : Change → Type 0) (feed : Feed) (timestamp : Option ℕ)
    (planned : (update : TripUpdate) (change : Change) → judged_planned feed timestamp update ≡ Ok change → P change)
    (added : (update : TripUpdate) (change : Change) → judged_added feed timestamp update ≡ Ok change → P change) where
  of_update : (update : TripUpdate) (change : Change) → judged_update feed timestamp update ≡ Ok change → P change
  of_update update change h =
      by_test (is_of_feed update.relation)
      (λ e. planned update change (rw e at h))
      (λ e.
      let left = rw e at h in
      by_test (is_added update.relation)
      (λ f. added update change (rw f at left))
      (λ f. absurd (let never : ◌≡◌ {A = Result Change ℕ} (Err 3) (Ok change) = rw f at left in cc)))

  of_entity : (entity : Entity) (change : Change) → judged feed timestamp entity ≡ Ok change → P change
  of_entity entity change h =
      by_test entity.deleted
      (λ e. absurd (let never : ◌≡◌ {A = Result Change ℕ} (Err 1) (Ok change) = rw e at h in cc))
      (λ e.
      let left : (or_reason 2 entity.update >>= judged_update feed timestamp) ≡ Ok change = rw e at h in
      let update = bind_ok (or_reason 2 entity.update) (judged_update feed timestamp) change left in
      of_update update.0 change update.2)

  of_answer : (names : List RunName) (answer : Result Change ℕ) → ((change : Change) → answer ≡ Ok change → P change) → All P (change_in (judged_after names answer))
  of_answer names (Err reason) h = All-nil P
  of_answer names (Ok change) h = from (has_run_name names change.name)
    where
      from : (b : Bool) → All P (change_in (if b then Err 9 else Ok change))
      from true = All-nil P
      from false = All-cons P change [] (h change refl) (All-nil P)

  of_entities : (names : List RunName) (entities : List Entity) → All P (flat_map change_in (judged_from feed timestamp names entities))
  unfolding judged_from
  of_entities names [] = All-nil P
  of_entities names (entity ∷ entities) =
      All-append P _ _ (of_answer names (judged feed timestamp entity) (of_entity entity))
      (of_entities (names_after names (judged_after names (judged feed timestamp entity))) entities)

pub each_change : (P : Change → Type 0) (feed : Feed) (message : Message)
    → ((update : TripUpdate) (change : Change) → judged_planned feed message.timestamp update ≡ Ok change → P change)
    → ((update : TripUpdate) (change : Change) → judged_added feed message.timestamp update ≡ Ok change → P change) → All P (changes_of feed message)
each_change P feed message planned added = of_entities P feed message.timestamp planned added [] message.entities

-- what a change of a message over a sound feed keeps
pub record IsServedChange (feed : Feed) (change : Change) : Type 0 where
  pub trip : IsServedTrip (length feed.trips) change.name.trip
  pub day : IsServiceDay change.name.day
  pub calls : IfSome change.calls (AreCourse (length feed.stops))

-- what holds of all items holds of the one that is found
pub found_of : {X : Type 0} (P : X → Type 0) (test : X → Bool) (xs : List X) (x : X) → All P xs → find test xs ≡ Some x → P x
found_of P test [] x all h = absurd cc
found_of P test (first ∷ xs) x all h = from (test first) refl h (λ k. found_of P test xs x (λ i d less. all (suc i) d (omega (arith, less))) k)
  where
    from : (b : Bool) → test first ≡ b → find test (first ∷ xs) ≡ Some x → (find test xs ≡ Some x → P x) → P x
    from true e k later = let is : first ≡ x = (let same : ◌≡◌ {A = Option _} (Some first) (Some x) = rw e at k in cc) in subst P is (all 0 first (omega arith))
    from false e k later = later (rw e at k)

sound_named : (feed : Feed) (name : RunName) (run : Run) → IsSound feed → run_named feed name ≡ Some run → IsSoundRun (length feed.stops) (length feed.trips) run
sound_named feed name run sound h = found_of (IsSoundRun (length feed.stops) (length feed.trips)) (λ (r : Run). is_same_name r.name name) feed.runs run sound.runs h

sound_meant : (feed : Feed) (trip : ℕ) (day : ℤ) (start : Option (List ℕ)) (run : Run) → IsSound feed → run_meant feed trip day start ≡ Some run
    → IsSoundRun (length feed.stops) (length feed.trips) run
sound_meant feed trip day start run sound h = from (run_named feed (planned_name trip day None)) refl (option_map_or clock_of start None) h
  where
    later : (clock : Option ℕ) → option_map_or (λ (at : ℕ). run_named feed (planned_name trip day (Some at))) clock None ≡ Some run → IsSoundRun (length feed.stops) (length feed.trips) run
    later None e = absurd (let never : ◌≡◌ {A = Option Run} None (Some run) = e in cc)
    later (Some at) e = sound_named feed (planned_name trip day (Some at)) run sound e

    from : (o : Option Run) → run_named feed (planned_name trip day None) ≡ o → (clock : Option ℕ)
        → first_of (run_named feed (planned_name trip day None)) (option_map_or (λ (at : ℕ). run_named feed (planned_name trip day (Some at))) clock None) ≡ Some run
        → IsSoundRun (length feed.stops) (length feed.trips) run
    from None n clock e = later clock (rw n at e)
    from (Some other) n clock e = sound_named feed (planned_name trip day None) run sound (n ∙ (rw n at e))

planned_served : (feed : Feed) (timestamp : Option ℕ) (update : TripUpdate) (change : Change) → IsSound feed → judged_planned feed timestamp update ≡ Ok change → IsServedChange feed change
planned_served feed timestamp update change sound h =
    let id = bind_ok (or_reason 4 update.trip_id) _ change h in
    let trip = bind_ok (or_reason 5 (trip_of feed id.0)) _ change id.2 in
    let day = bind_ok (or_reason 6 (service_day_of feed timestamp update)) _ change trip.2 in
    let run = bind_ok (or_reason 7 (run_meant feed trip.0 day.0 update.start_time)) _ change day.2 in
    let p = passed 8 (are_events update.updates) (changed_run feed update run.0) change run.2 in
    let meant = sound_meant feed trip.0 day.0 update.start_time run.0 sound (there_is 7 _ run.0 run.1) in
    subst (IsServedChange feed) p.1 (record {
      trip = subst (IsServedTrip (length feed.trips)) (sym meant.name.planned) meant.name.trip;
      day = meant.name.day;
      calls = from (update.relation == 0) run.0.calls meant.calls p.0;
    })
  where
    from : (moved : Bool) (calls : List Call) → All (IsSoundCall (length feed.stops)) calls → are_events update.updates ≡ true
        → IfSome (if moved then Some (moved_calls feed.stops update.updates calls) else None) (AreCourse (length feed.stops))
    from true calls are events = moved_course feed.stops update.updates calls are events
    from false calls are events = tt

added_served : (feed : Feed) (timestamp : Option ℕ) (update : TripUpdate) (change : Change) → IsSound feed → judged_added feed timestamp update ≡ Ok change → IsServedChange feed change
added_served feed timestamp update change sound h =
    let id = bind_ok (or_reason 4 update.trip_id) _ change h in
    let text = bind_ok (passes_or 5 (is_new_trip feed id.0) id.0) _ change id.2 in
    let day = bind_ok (or_reason 6 (service_day_of feed timestamp update)) _ change text.2 in
    let within = bind_ok (passes_or 7 (is_in_horizon feed day.0) day.0) _ change day.2 in
    let updates = bind_ok (passes_or 8 (are_events update.updates && are_enough update.updates) update.updates) _ change within.2 in
    let calls = bind_ok (or_reason 8 (given_from feed.stops 1 updates.0)) _ change updates.2 in
    let made : ◌≡◌ {A = Result Change ℕ} (Ok (record { name = record { trip = Added text.0; day = within.0; start = None }; calls = Some (raised calls.0) })) (Ok change) = calls.2 in
    let is : record { name = record { trip = Added text.0; day = within.0; start = None }; calls = Some (raised calls.0) } ≡ change = cc in
    let horizon = passed 7 (is_in_horizon feed day.0) day.0 within.0 within.1 in
    let ends = both (int_le feed.first_day day.0) (int_lt day.0 (feed.first_day +ℤ pos feed.days)) horizon.0 in
    let range = passed 8 (are_events update.updates && are_enough update.updates) update.updates updates.0 updates.1 in
    let events : are_events updates.0 ≡ true = subst (λ us. are_events us ≡ true) range.1 (both (are_events update.updates) (are_enough update.updates) range.0).0 in
    let on : IsServiceDay day.0 = record { low = omega (arith, ints, ends.0, sound.first_day); high = omega (arith, ints, ends.1, sound.last_day) } in
    subst (IsServedChange feed) is (record {
      trip = tt;
      day = subst IsServiceDay horizon.1 on;
      calls = given_course feed.stops 1 updates.0 calls.0 (there_is 8 _ calls.0 calls.1) events;
    })

-- each change that a message makes over a sound feed is at its stops, of its days, and within bounds
pub changes_served : (feed : Feed) (message : Message) → IsSound feed → All (IsServedChange feed) (changes_of feed message)
changes_served feed message sound =
    each_change (IsServedChange feed) feed message
    (λ update change h. planned_served feed message.timestamp update change sound h)
    (λ update change h. added_served feed message.timestamp update change sound h)
