-- Every schedule over a sound feed is of its stops and days, and within bounds.
use Rattle.std.proofs.Common.{◌≡◌, ℕ, suc, List, [], ◌∷◌, length, Option, Some, None, IfSome, refl, sym, subst, arith}
use Rattle.std.specs.List.{All, find, flat_map}
use Rattle.std.specs.Option.{option_map, option_map_or}
use Rattle.std.proofs.lemmas.Int.{ints}
use Rattle.std.proofs.lemmas.List.Elements.{All-append, All-cons, All-nil, All-weaker}
use Rattle.otp_model.specs.Ranges.{IsServiceDay}
use Rattle.otp_model.specs.Resolution.{changes_of, form, is_same_name}
use Rattle.otp_model.specs.Schedule.{added_names, added_run, form_after, most_feed, planned_run, run_with, sched}
use Rattle.otp_model.specs.Sound.{AreServed, IsServedCall, IsServedRun, IsServedTrip, IsSound, IsSoundCall, IsSoundRun}
use Rattle.otp_model.specs.declared.change.Change.{Change}
use Rattle.otp_model.specs.declared.message.Commit.{Commit}
use Rattle.otp_model.specs.declared.message.Message.{Message}
use Rattle.otp_model.specs.declared.run_name.RunName.{RunName}
use Rattle.otp_model.specs.declared.timetable.Call.{Call}
use Rattle.otp_model.specs.declared.timetable.Feed.{Feed}
use Rattle.otp_model.specs.declared.timetable.Run.{Run}
use Rattle.otp_model.proofs.JudgedLemmas.{IsServedChange, changes_served, found_of}
use Rattle.otp_model.proofs.ServedLemmas.{AreCourse}
use Rattle.change_buffer.proofs.HistoryLemmas.{who_said}
use Rattle.change_buffer.proofs.NamedLemmas.{named_of}

-- what is said of a name, where it is a run
record IsServedForm (feed : Feed) (name : RunName) (said : Option (List Call)) : Type 0 where
  trip : IsServedTrip (length feed.trips) name.trip
  day : IsServiceDay name.day
  calls : IfSome said (AreCourse (length feed.stops))

abbrev change_name : Change → RunName
change_name change = change.name

form_served : (feed : Feed) (message : Message) (name : RunName) (said : Option (List Call)) → IsSound feed → form feed message name ≡ Some said → IsServedForm feed name said
form_served feed message name said sound h = from (find (λ (change : Change). is_same_name change.name name) (changes_of feed message)) refl h
  where
    from : (found : Option Change) → find (λ (change : Change). is_same_name change.name name) (changes_of feed message) ≡ found
        → option_map (λ (change : Change). change.calls) found ≡ Some said → IsServedForm feed name said
    from None e h = absurd (let never : ◌≡◌ {A = Option (Option (List Call))} None (Some said) = h in cc)
    from (Some change) e h =
        let same : ◌≡◌ {A = Option (Option (List Call))} (Some change.calls) (Some said) = h in
        let calls : change.calls ≡ said = cc in
        let named : change.name ≡ name = named_of change_name name (changes_of feed message) change e in
        let served = found_of (IsServedChange feed) (λ (c : Change). is_same_name c.name name) (changes_of feed message) change (changes_served feed message sound) e in
        record {
          trip = subst (λ (n : RunName). IsServedTrip (length feed.trips) n.trip) named served.trip;
          day = subst (λ (n : RunName). IsServiceDay n.day) named served.day;
          calls = subst (λ (c : Option (List Call)). IfSome c (AreCourse (length feed.stops))) calls served.calls;
        }

abbrev IsServed : Feed → Run → Type 0
IsServed feed run = IsServedRun (length feed.stops) (length feed.trips) run

said_served : (feed : Feed) (name : RunName) (said : Option (List Call)) → IsServedForm feed name said → All (IsServed feed) (run_with name said)
said_served feed name None h = All-nil (IsServed feed)
said_served feed name (Some calls) h =
    All-cons (IsServed feed) (record { name = name; calls = calls }) [] (record { trip = h.trip; day = h.day; calls = h.calls.served; along = h.calls.along }) (All-nil (IsServed feed))

call_served : (stops : ℕ) (call : Call) → IsSoundCall stops call → IsServedCall stops call
call_served stops call h = record { stop = h.stop; forward = h.forward; low = omega (arith, ints, h.low); high = omega (arith, ints, h.high) }

run_served : (feed : Feed) (run : Run) → IsSoundRun (length feed.stops) (length feed.trips) run → IsServed feed run
run_served feed run h = record {
  trip = subst (IsServedTrip (length feed.trips)) (sym h.name.planned) h.name.trip;
  day = h.name.day;
  calls = All-weaker (IsSoundCall (length feed.stops)) (IsServedCall (length feed.stops)) (call_served (length feed.stops)) run.calls h.calls;
  along = λ i j d less within. (h.along i j d less within).forward;
}

shown_served : (feed : Feed) (history : List Commit) (name : RunName) (base : List Run) → IsSound feed → All (IsServed feed) base
    → All (IsServed feed) (option_map_or (run_with name) (form_after feed history name) base)
shown_served feed history name base sound h = from (form_after feed history name) refl
  where
    from : (said : Option (Option (List Call))) → form_after feed history name ≡ said → All (IsServed feed) (option_map_or (run_with name) said base)
    from None e = h
    from (Some said) e =
        let by = who_said feed history (most_feed history) name said e in
        said_served feed name said (form_served feed by.message name said sound by.form_is)

all_planned : (feed : Feed) (history : List Commit) (runs : List Run) → IsSound feed → All (IsSoundRun (length feed.stops) (length feed.trips)) runs
    → All (IsServed feed) (flat_map (planned_run feed history) runs)
all_planned feed history [] sound all = All-nil (IsServed feed)
all_planned feed history (run ∷ runs) sound all =
    All-append (IsServed feed) (planned_run feed history run) (flat_map (planned_run feed history) runs)
    (shown_served feed history run.name (run ∷ []) sound (All-cons (IsServed feed) run [] (run_served feed run (all 0 run (omega arith))) (All-nil (IsServed feed))))
    (all_planned feed history runs sound (λ k d less. all (suc k) d (omega (arith, less))))

all_added : (feed : Feed) (history : List Commit) (names : List RunName) → IsSound feed → All (IsServed feed) (flat_map (added_run feed history) names)
all_added feed history [] sound = All-nil (IsServed feed)
all_added feed history (name ∷ names) sound =
    All-append (IsServed feed) (added_run feed history name) (flat_map (added_run feed history) names)
    (shown_served feed history name [] sound (All-nil (IsServed feed))) (all_added feed history names sound)

pub sched_served : (feed : Feed) (history : List Commit) → IsSound feed → AreServed feed (sched feed history)
sched_served feed history sound =
    All-append (IsServed feed) (flat_map (planned_run feed history) feed.runs) (flat_map (added_run feed history) (added_names feed history))
    (all_planned feed history feed.runs sound sound.runs) (all_added feed history (added_names feed history) sound)
