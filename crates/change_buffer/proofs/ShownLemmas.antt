-- Lists of runs of which each comes from an item of its name.
use Rattle.std.proofs.Common.{◌≡◌, true, false, List, [], ◌∷◌, ◌++◌, map, Option, Some, None, refl, sym, ◌∙◌, ap, subst}
use Rattle.std.specs.List.{flat_map}
use Rattle.std.specs.Option.{option_map, option_map_or, option_or}
use Rattle.otp_model.specs.Names.{run_name_cmp}
use Rattle.otp_model.specs.Resolution.{is_same_name}
use Rattle.otp_model.specs.Schedule.{calls_in, run_with}
use Rattle.otp_model.specs.declared.run_name.RunName.{RunName}
use Rattle.otp_model.specs.declared.timetable.Call.{Call}
use Rattle.otp_model.specs.declared.timetable.Run.{Run}
use Rattle.otp_model.proofs.RisingLemmas.{AreAbove, Rises}
use Rattle.otp_model.proofs.JudgedLemmas.{by_test}
use Rattle.change_buffer.proofs.NamedLemmas.{AreApart, named, named_append, named_of, same_from}

abbrev pub run_name : Run → RunName
run_name run = run.name

pub calls_append : (xs ys : List Run) (name : RunName) → calls_in (xs ++ ys) name ≡ option_or (calls_in xs name) (calls_in ys name)
calls_append xs ys name = ap (option_map (λ (run : Run). run.calls)) (named_append run_name name xs ys) ∙ from (named run_name name xs)
  where
    from : (o : Option Run) → option_map (λ (run : Run). run.calls) (option_or o (named run_name name ys))
        ≡ option_or (option_map (λ (run : Run). run.calls) o) (option_map (λ (run : Run). run.calls) (named run_name name ys))
    from None = refl
    from (Some run) = refl

-- the run of a name is the name and its calls
pub run_from_calls : (xs ys : List Run) (name : RunName) → calls_in xs name ≡ calls_in ys name → named run_name name xs ≡ named run_name name ys
run_from_calls xs ys name same = from (named run_name name xs) (named run_name name ys) refl refl
  where
    from : (o p : Option Run) → named run_name name xs ≡ o → named run_name name ys ≡ p → named run_name name xs ≡ named run_name name ys
    from None None e f = e ∙ sym f
    from None (Some run) e f = absurd (let never : ◌≡◌ {A = Option (List Call)} None (Some run.calls) = ap (option_map (λ (run : Run). run.calls)) (sym e) ∙ same ∙ ap (option_map (λ (run : Run). run.calls)) f in cc)
    from (Some run) None e f = absurd (let never : ◌≡◌ {A = Option (List Call)} (Some run.calls) None = ap (option_map (λ (run : Run). run.calls)) (sym e) ∙ same ∙ ap (option_map (λ (run : Run). run.calls)) f in cc)
    from (Some a) (Some b) e f =
        let calls : ◌≡◌ {A = Option (List Call)} (Some a.calls) (Some b.calls) = ap (option_map (λ (run : Run). run.calls)) (sym e) ∙ same ∙ ap (option_map (λ (run : Run). run.calls)) f in
        let inner : a.calls ≡ b.calls = cc in
        let names : a.name ≡ b.name = named_of run_name name xs a e ∙ sym (named_of run_name name ys b f) in
        let runs : a ≡ b = λ i. record { name = names i; calls = inner i } in
        e ∙ ap (λ (run : Run). Some run) runs ∙ sym f

module _ {X : Type 0} (key : X → RunName) (shows : X → Option (List Call)) where
  abbrev pub shown_run : X → List Run
  shown_run x = run_with (key x) (shows x)

  abbrev pub shown_runs : List X → List Run
  shown_runs xs = flat_map shown_run xs

  pub calls_shown : (name : RunName) (xs : List X) → AreApart key xs → calls_in (shown_runs xs) name ≡ option_map_or shows (named key name xs) None
  calls_shown name [] a = refl
  calls_shown name (x ∷ xs) a =
      let later : calls_in (shown_runs xs) name ≡ option_map_or shows (named key name xs) None = calls_shown name xs a.1 in
      by_test (is_same_name (key x) name)
      (λ e.
      let gone : named key name xs ≡ None = subst (λ (n : RunName). named key n xs ≡ None) (same_from (key x) name e) a.0 in
      here (shows x) refl e (later ∙ ap (λ o. option_map_or shows o None) gone))
      (λ e. there (shows x) e later)
    where
      here : (calls : Option (List Call)) → shows x ≡ calls → is_same_name (key x) name ≡ true → calls_in (shown_runs xs) name ≡ None
          → calls_in (run_with (key x) (shows x) ++ shown_runs xs) name ≡ option_map_or shows (named key name (x ∷ xs)) None
      here None s e gone = rw (e, s) gone
      here (Some calls) s e gone = rw (e, s) (rw e refl)

      there : (calls : Option (List Call)) → is_same_name (key x) name ≡ false → calls_in (shown_runs xs) name ≡ option_map_or shows (named key name xs) None
          → calls_in (run_with (key x) calls ++ shown_runs xs) name ≡ option_map_or shows (named key name (x ∷ xs)) None
      there None e later = rw e later
      there (Some calls) e later = rw e later

  pub above_shown : (name : RunName) (xs : List X) → AreAbove run_name_cmp name (map key xs) → AreAbove run_name_cmp name (map run_name (shown_runs xs))
  above_shown name [] a = tt
  above_shown name (x ∷ xs) a = from (shows x) (above_shown name xs a.1)
    where
      from : (calls : Option (List Call)) → AreAbove run_name_cmp name (map run_name (shown_runs xs)) → AreAbove run_name_cmp name (map run_name (run_with (key x) calls ++ shown_runs xs))
      from None later = later
      from (Some calls) later = (a.0, later)

  pub rises_shown : (xs : List X) → Rises run_name_cmp (map key xs) → Rises run_name_cmp (map run_name (shown_runs xs))
  rises_shown [] r = tt
  rises_shown (x ∷ xs) r = from (shows x) (rises_shown xs r.1)
    where
      from : (calls : Option (List Call)) → Rises run_name_cmp (map run_name (shown_runs xs)) → Rises run_name_cmp (map run_name (run_with (key x) calls ++ shown_runs xs))
      from None later = later
      from (Some calls) later = (above_shown (key x) xs r.0, later)

  pub apart_shown : (xs : List X) → AreApart key xs → AreApart run_name (shown_runs xs)
  apart_shown [] a = tt
  apart_shown (x ∷ xs) a = from (shows x) (apart_shown xs a.1)
    where
      gone : calls_in (shown_runs xs) (key x) ≡ None
      gone = calls_shown (key x) xs a.1 ∙ ap (λ o. option_map_or shows o None) a.0

      from : (calls : Option (List Call)) → AreApart run_name (shown_runs xs) → AreApart run_name (run_with (key x) calls ++ shown_runs xs)
      from None later = later
      from (Some calls) later = (run_from_calls (shown_runs xs) [] (key x) gone, later)
