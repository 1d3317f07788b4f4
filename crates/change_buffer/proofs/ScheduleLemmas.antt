-- The schedule after a history: its names rise, and under each stands what the messages say of it, or else the feed's run.
use Rattle.std.proofs.Common.{◌≡◌, ℕ, suc, Bool, true, false, List, [], ◌∷◌, ◌++◌, map, length, Option, Some, None, ◌⊎◌, inl, inr, refl, sym, ◌∙◌, ap, subst, arith}
use Rattle.std.specs.List.{All, AllPairs, flat_map, range_with_len}
use Rattle.std.specs.Option.{option_map, option_map_or, option_or}
use Rattle.std.specs.declared.cmp.Ordering.TheVariants.{Less}
use Rattle.std.proofs.lemmas.List.{map-append}
use Rattle.std.proofs.lemmas.List.Elements.{All-cons}
use Rattle.std.proofs.lemmas.List.Kept.{AllPairs-cons}
use Rattle.otp_model.specs.Names.{run_name_cmp}
use Rattle.otp_model.specs.Resolution.{changes_of, form, is_same_name, run_named}
use Rattle.otp_model.specs.Schedule.{added_in, added_names, added_run, calls_in, form_after, is_added_trip, latest, most_feed, planned_run, run_with, sched}
use Rattle.otp_model.specs.Sound.{IsRunBelow, IsSound, IsSoundRun}
use Rattle.otp_model.specs.declared.change.Change.{Change}
use Rattle.otp_model.specs.declared.message.Commit.{Commit}
use Rattle.otp_model.specs.declared.message.Message.{Message}
use Rattle.otp_model.specs.declared.run_name.RunName.{RunName}
use Rattle.otp_model.specs.declared.run_name.TripName.{TripName}
use Rattle.otp_model.specs.declared.run_name.TripName.TheVariants.{Planned, Added}
use Rattle.otp_model.specs.declared.timetable.Call.{Call}
use Rattle.otp_model.specs.declared.timetable.Feed.{Feed}
use Rattle.otp_model.specs.declared.timetable.Run.{Run}
use Rattle.otp_model.proofs.RisingLemmas.{AreAbove, IsIn, Rises, rises}
use Rattle.change_buffer.specs.Forms.{in_force}
use Rattle.change_buffer.proofs.HistoryLemmas.{IsSaid, who_said}
use Rattle.change_buffer.proofs.KnownLemmas.{change_name, known}
use Rattle.otp_model.proofs.JudgedLemmas.{by_test}
use Rattle.change_buffer.proofs.NamedLemmas.{AreApart, in_named, named, named_of, named_place, rising_apart, same_to}
use Rattle.change_buffer.proofs.OrderLemmas.{from_flat, from_ordered, in_filter, in_ordered, in_range, passes_filter, rises_ordered}
use Rattle.change_buffer.proofs.ShownLemmas.{calls_append, calls_shown, rises_shown, run_name, shown_run, shown_runs}

abbrev itself : RunName → RunName
itself name = name

names_itself : (names : List RunName) → map itself names ≡ names
names_itself [] = refl
names_itself (name ∷ names) = ap (λ (ns : List RunName). name ∷ ns) (names_itself names)

named_from_in : (name : RunName) (names : List RunName) → IsIn name names → named itself name names ≡ None → ⊥
named_from_in name [] i h = i
named_from_in name (first ∷ names) (inl s) h = let never : ◌≡◌ {A = Option RunName} (Some first) None = rw (same_to first name s) at h in cc
named_from_in name (first ∷ names) (inr i) h =
    by_test (is_same_name first name)
    (λ e. let never : ◌≡◌ {A = Option RunName} (Some first) None = rw e at h in cc)
    (λ e. named_from_in name names i (rw e at h))

module _ (feed : Feed) (history : List Commit) where
  abbrev pub planned_calls : Run → Option (List Call)
  planned_calls run = in_force (form_after feed history run.name) (Some run.calls)

  abbrev pub added_calls : RunName → Option (List Call)
  added_calls name = in_force (form_after feed history name) None

  abbrev planned_part : List Run
  planned_part = flat_map (planned_run feed history) feed.runs

  abbrev added_part : List Run
  added_part = flat_map (added_run feed history) (added_names feed history)

  planned_is : planned_run feed history ≡ shown_run run_name planned_calls
  planned_is = λ i run. from run (form_after feed history run.name) i
    where
      from : (run : Run) (o : Option (Option (List Call))) → option_map_or (run_with run.name) o (run ∷ []) ≡ run_with run.name (in_force o (Some run.calls))
      from run None = refl
      from run (Some calls) = refl

  added_is : added_run feed history ≡ shown_run itself added_calls
  added_is = λ i name. from name (form_after feed history name) i
    where
      from : (name : RunName) (o : Option (Option (List Call))) → option_map_or (run_with name) o [] ≡ run_with name (in_force o None)
      from name None = refl
      from name (Some calls) = refl

  added_named : (name : RunName) → IsIn name (added_names feed history) → is_added_trip name.trip ≡ true
  added_named name i =
      let number = from_flat (λ (n : ℕ). option_map_or (added_in feed) (latest history n) []) name (range_with_len 0 (suc (most_feed history))) (from_ordered name _ i) in
      from (latest history number.0) number.1
    where
      from : (o : Option Message) → IsIn name (option_map_or (added_in feed) o []) → is_added_trip name.trip ≡ true
      from None j = absurd j
      from (Some message) j = passes_filter (λ (n : RunName). is_added_trip n.trip) name (map change_name (changes_of feed message)) j

  -- who speaks of a name that is no run of the feed adds it
  said_added : (name : RunName) (said : Option (List Call)) → run_named feed name ≡ None → IsSaid feed history (most_feed history) name said → IsIn name (added_names feed history)
  said_added name said none is = from (named change_name name (changes_of feed is.message)) refl is.form_is
    where
      from : (o : Option Change) → named change_name name (changes_of feed is.message) ≡ o → form feed is.message name ≡ Some said → IsIn name (added_names feed history)
      from None e h = absurd (let never : ◌≡◌ {A = Option (Option (List Call))} None (Some said) = sym (ap (option_map (λ (change : Change). change.calls)) e) ∙ h in cc)
      from (Some change) e h =
          elim (known feed is.message name change e) [
            | inl added ↦
                let inside : IsIn name (added_in feed is.message) = in_filter (λ (n : RunName). is_added_trip n.trip) name (map change_name (changes_of feed is.message)) added (in_named change_name name (changes_of feed is.message) change e) in
                let here : IsIn name (option_map_or (added_in feed) (latest history is.number) []) = subst (λ o. IsIn name (option_map_or (added_in feed) o [])) (sym is.latest_is) inside in
                let within = is.within in
                in_ordered name _ (in_range (λ number. option_map_or (added_in feed) (latest history number) []) name 0 (suc (most_feed history)) is.number (omega arith) (omega arith) here)
            | inr found ↦ absurd (let never : ◌≡◌ {A = Option Run} None (Some found.0) = sym none ∙ found.1 in cc)
          ]

  module _ (sound : IsSound feed) where
    base_rises : Rises run_name_cmp (map run_name feed.runs)
    base_rises = rises run_name_cmp run_name feed.runs sound.run_names

    planned_named : (name : RunName) (run : Run) → run_named feed name ≡ Some run → is_added_trip name.trip ≡ false
    planned_named name run h =
        let place = named_place run_name name feed.runs run h in
        let is : IsSoundRun (length feed.stops) (length feed.trips) run = subst (IsSoundRun (length feed.stops) (length feed.trips)) place.2 (sound.runs place.0 run place.1) in
        ap (λ (n : RunName). is_added_trip n.trip) (sym (named_of run_name name feed.runs run h)) ∙ ap is_added_trip is.name.planned

    planned_shown : (name : RunName) → calls_in planned_part name ≡ option_map_or planned_calls (run_named feed name) None
    planned_shown name =
        ap (λ g. calls_in (flat_map g feed.runs) name) planned_is
        ∙ calls_shown run_name planned_calls name feed.runs (rising_apart run_name feed.runs base_rises)

    added_rises : Rises run_name_cmp (map itself (added_names feed history))
    added_rises = subst (Rises run_name_cmp) (sym (names_itself (added_names feed history))) (rises_ordered _)

    added_shown : (name : RunName) → calls_in added_part name ≡ option_map_or added_calls (named itself name (added_names feed history)) None
    added_shown name =
        ap (λ g. calls_in (flat_map g (added_names feed history)) name) added_is
        ∙ calls_shown itself added_calls name (added_names feed history) (rising_apart itself (added_names feed history) added_rises)

    -- under each name stands what the messages say of it, or else the feed's run
    pub sched_calls : (name : RunName) → calls_in (sched feed history) name ≡ in_force (form_after feed history name) (calls_in feed.runs name)
    sched_calls name =
        calls_append planned_part added_part name
        ∙ (λ i. option_or (planned_shown name i) (added_shown name i))
        ∙ at_run (run_named feed name) refl (named itself name (added_names feed history)) refl
      where
        none_or : (o : Option (List Call)) → option_or o None ≡ o
        none_or None = refl
        none_or (Some calls) = refl

        unsaid : run_named feed name ≡ None → named itself name (added_names feed history) ≡ None → (o : Option (Option (List Call))) → form_after feed history name ≡ o → None ≡ in_force o None
        unsaid none gone None e = refl
        unsaid none gone (Some said) e =
            absurd (named_from_in name (added_names feed history) (said_added name said none (who_said feed history (most_feed history) name said e)) gone)

        at_run : (o : Option Run) → run_named feed name ≡ o → (p : Option RunName) → named itself name (added_names feed history) ≡ p
            → option_or (option_map_or planned_calls (run_named feed name) None) (option_map_or added_calls (named itself name (added_names feed history)) None)
            ≡ in_force (form_after feed history name) (calls_in feed.runs name)
        at_run (Some run) e (Some other) f =
            absurd (let never : ◌≡◌ {A = Bool} true false = sym (added_named name (subst (IsIn name) (names_itself (added_names feed history)) (in_named itself name (added_names feed history) other f))) ∙ planned_named name run e in cc)
        at_run (Some run) e None f =
            (λ i. option_or (option_map_or planned_calls (e i) None) (option_map_or added_calls (f i) None))
            ∙ none_or (planned_calls run)
            ∙ ap (λ (n : RunName). in_force (form_after feed history n) (Some run.calls)) (named_of run_name name feed.runs run e)
            ∙ ap (λ o. in_force (form_after feed history name) (option_map (λ (r : Run). r.calls) o)) (sym e)
        at_run None e (Some other) f =
            (λ i. option_or (option_map_or planned_calls (e i) None) (option_map_or added_calls (f i) None))
            ∙ ap (λ (n : RunName). in_force (form_after feed history n) None) (named_of itself name (added_names feed history) other f)
            ∙ ap (λ o. in_force (form_after feed history name) (option_map (λ (r : Run). r.calls) o)) (sym e)
        at_run None e None f =
            (λ i. option_or (option_map_or planned_calls (e i) None) (option_map_or added_calls (f i) None))
            ∙ unsaid e f (form_after feed history name) refl
            ∙ ap (λ o. in_force (form_after feed history name) (option_map (λ (r : Run). r.calls) o)) (sym e)

    all_planned : (runs : List Run) → All (IsSoundRun (length feed.stops) (length feed.trips)) runs → (v : RunName) → IsIn v (map run_name runs) → is_added_trip v.trip ≡ false
    all_planned [] each v i = absurd i
    all_planned (run ∷ runs) each v (inl s) = ap (λ (n : RunName). is_added_trip n.trip) (sym s) ∙ ap is_added_trip (each 0 run (omega arith)).name.planned
    all_planned (run ∷ runs) each v (inr i) = all_planned runs (λ k d l. each (suc k) d (omega arith)) v i

    -- planned names stand before added ones
    pub sched_rises : Rises run_name_cmp (map run_name (sched feed history))
    sched_rises =
        subst (Rises run_name_cmp) (sym (map-append run_name planned_part added_part))
        (joined (map run_name planned_part) (map run_name added_part) planned_rises added_part_rises
        (λ v i. all_planned feed.runs sound.runs v (shown_in feed.runs v (subst (λ g. IsIn v (map run_name (flat_map g feed.runs))) planned_is i)))
        (λ w i. added_named w (subst (IsIn w) (names_itself (added_names feed history)) (shown_in_added (added_names feed history) w (subst (λ g. IsIn w (map run_name (flat_map g (added_names feed history)))) added_is i)))))
      where
        planned_rises : Rises run_name_cmp (map run_name planned_part)
        planned_rises = subst (λ g. Rises run_name_cmp (map run_name (flat_map g feed.runs))) (sym planned_is) (rises_shown run_name planned_calls feed.runs base_rises)

        added_part_rises : Rises run_name_cmp (map run_name added_part)
        added_part_rises = subst (λ g. Rises run_name_cmp (map run_name (flat_map g (added_names feed history)))) (sym added_is) (rises_shown itself added_calls (added_names feed history) added_rises)

        one_shown : (v name : RunName) (calls : Option (List Call)) (rest : List Run) → IsIn v (map run_name (run_with name calls ++ rest)) → (name ≡ v) ⊎ IsIn v (map run_name rest)
        one_shown v name None rest i = inr i
        one_shown v name (Some calls) rest i = i

        shown_in : (runs : List Run) (v : RunName) → IsIn v (map run_name (shown_runs run_name planned_calls runs)) → IsIn v (map run_name runs)
        shown_in [] v i = i
        shown_in (run ∷ runs) v i = elim (one_shown v run.name (planned_calls run) (shown_runs run_name planned_calls runs) i) [ inl s ↦ inl s | inr j ↦ inr (shown_in runs v j) ]

        shown_in_added : (names : List RunName) (v : RunName) → IsIn v (map run_name (shown_runs itself added_calls names)) → IsIn v (map itself names)
        shown_in_added [] v i = i
        shown_in_added (name ∷ names) v i = elim (one_shown v name (added_calls name) (shown_runs itself added_calls names) i) [ inl s ↦ inl s | inr j ↦ inr (shown_in_added names v j) ]

        trips_below : (s t : TripName) (a b : RunName) → a.trip ≡ s → b.trip ≡ t → is_added_trip s ≡ false → is_added_trip t ≡ true → run_name_cmp a b ≡ Less
        trips_below (Planned m) (Planned n) a b e f h g = absurd cc
        trips_below (Added s) t a b e f h g = absurd cc
        trips_below (Planned m) (Added t) a b e f h g = rw (e, f) refl

        all_above : (v : RunName) (ws : List RunName) → is_added_trip v.trip ≡ false → ((w : RunName) → IsIn w ws → is_added_trip w.trip ≡ true) → AreAbove run_name_cmp v ws
        all_above v [] h g = tt
        all_above v (w ∷ ws) h g = (trips_below v.trip w.trip v w refl refl h (g w (inl refl)), all_above v ws h (λ x i. g x (inr i)))

        above_both : (v : RunName) (vs ws : List RunName) → AreAbove run_name_cmp v vs → AreAbove run_name_cmp v ws → AreAbove run_name_cmp v (vs ++ ws)
        above_both v [] ws a b = b
        above_both v (w ∷ vs) ws a b = (a.0, above_both v vs ws a.1 b)

        joined : (vs ws : List RunName) → Rises run_name_cmp vs → Rises run_name_cmp ws → ((v : RunName) → IsIn v vs → is_added_trip v.trip ≡ false)
            → ((w : RunName) → IsIn w ws → is_added_trip w.trip ≡ true) → Rises run_name_cmp (vs ++ ws)
        joined [] ws r s f g = s
        joined (v ∷ vs) ws r s f g = (above_both v vs ws r.0 (all_above v ws (f v (inl refl)) g), joined vs ws r.1 s (λ x i. f x (inr i)) g)

-- lists that rise by their keys, pair by pair
module _ {X : Type 0} (key : X → RunName) where
  all_from_above : (v : RunName) (xs : List X) → AreAbove run_name_cmp v (map key xs) → All (λ x. run_name_cmp v (key x) ≡ Less) xs
  all_from_above v [] a = λ k d l. absurd (omega arith)
  all_from_above v (x ∷ xs) a = All-cons (λ y. run_name_cmp v (key y) ≡ Less) x xs a.0 (all_from_above v xs a.1)

  pub pairs_from_rises : (xs : List X) → Rises run_name_cmp (map key xs) → AllPairs (λ a b. run_name_cmp (key a) (key b) ≡ Less) xs
  pairs_from_rises [] r = λ i j d l m. absurd (omega arith)
  pairs_from_rises (x ∷ xs) r = AllPairs-cons (λ a b. run_name_cmp (key a) (key b) ≡ Less) x xs (all_from_above (key x) xs r.0) (pairs_from_rises xs r.1)

-- no two runs of a schedule have one name: they stand in the order of their names
pub sched_in_order : (feed : Feed) (history : List Commit) → IsSound feed → AllPairs IsRunBelow (sched feed history)
sched_in_order feed history sound = pairs_from_rises run_name (sched feed history) (sched_rises feed history sound)

pub sched_apart : (feed : Feed) (history : List Commit) → IsSound feed → AreApart run_name (sched feed history)
sched_apart feed history sound = rising_apart run_name (sched feed history) (sched_rises feed history sound)
