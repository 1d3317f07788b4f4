-- The feed of the tests is sound.
use Rattle.std.proofs.Common.{◌≡◌, ◌≢◌, ℕ, ◌<◌, pos, List, [], ◌∷◌, ◌++◌, None, refl, sym, ◌∙◌, ap, subst, arith}
use Rattle.std.specs.Prelude.{IfSome}
use Rattle.std.specs.List.{AllPairs}
use Rattle.std.proofs.lemmas.Int.{ints}
use Rattle.std.proofs.lemmas.List.Elements.{All-cons, All-nil}
use Rattle.std.proofs.lemmas.List.Kept.{AllPairs-cons}
use Rattle.otp_model.specs.Resolution.{planned_name}
use Rattle.otp_model.specs.Sound.{IsLaterCall, IsRunBelow, IsSound, IsSoundCall, IsSoundRun}
use Rattle.otp_model.specs.declared.timetable.Call.{Call}
use Rattle.otp_model.specs.declared.timetable.Feed.{Feed}
use Rattle.otp_model.specs.declared.timetable.Run.{Run}
use Rattle.otp_model.specs.declared.timetable.Stop.{Stop}
use Rattle.otp_model.specs.declared.timetable.Trip.{Trip}
use Rattle.update_checks.specs.Sample.{call_of}

pub pushed : {X : Type 0} (before after : List X) (x : X) → before ≡ [] → after ≡ before ++ x ∷ [] → after ≡ x ∷ []
pushed before after x empty is = is ∙ ap (λ xs. xs ++ x ∷ []) empty

one_apart : {X : Type 0} (R : X → X → Type 0) (x : X) → AllPairs R (x ∷ [])
one_apart R x = λ i j d l m. absurd (omega arith)

abbrev sample_run : Run
sample_run = record { name = planned_name 0 (pos 1) None; calls = call_of 1 1000 ∷ call_of 2 2000 ∷ [] }

sample_call : (seq time : ℕ) → time < 10000 → IsSoundCall 1 (call_of seq time)
sample_call seq time early = record { stop = omega arith; forward = omega (arith, ints); low = omega (arith, ints, early); high = omega (arith, ints, early) }

sample_sound_run : IsSoundRun 1 1 sample_run
sample_sound_run = record {
  name = record { number = 0; planned = refl; trip = omega arith; day = record { low = omega (arith, ints); high = omega (arith, ints) }; start = tt };
  calls = All-cons (IsSoundCall 1) (call_of 1 1000) (call_of 2 2000 ∷ []) (sample_call 1 1000 (omega arith)) (All-cons (IsSoundCall 1) (call_of 2 2000) [] (sample_call 2 2000 (omega arith)) (All-nil (IsSoundCall 1)));
  along = AllPairs-cons IsLaterCall (call_of 1 1000) (call_of 2 2000 ∷ [])
      (All-cons (IsLaterCall (call_of 1 1000)) (call_of 2 2000) [] (record { rises = omega arith; forward = omega (arith, ints) }) (All-nil (IsLaterCall (call_of 1 1000))))
      (one_apart IsLaterCall (call_of 2 2000));
}

pub sample_sound : (feed : Feed) (stop : Stop) (trip : Trip) (calls : List Call) → feed.stops ≡ stop ∷ [] → stop.parent ≡ None → feed.trips ≡ trip ∷ []
    → feed.runs ≡ record { name = planned_name 0 (pos 1) None; calls = calls } ∷ [] → calls ≡ call_of 1 1000 ∷ call_of 2 2000 ∷ [] → feed.first_day ≡ pos 0 → feed.days ≡ 10 → IsSound feed
sample_sound feed stop trip calls stops parent trips runs same first_day days =
    let one : feed.runs ≡ sample_run ∷ [] = runs ∙ ap (λ (cs : List Call). record { name = planned_name 0 (pos 1) None; calls = cs } ∷ []) same in
    subst IsSound
    (λ i. record { stops = sym stops i; trips = sym trips i; runs = sym one i; zone = feed.zone; first_day = sym first_day i; days = sym days i })
    sound
  where
    parent_is : IfSome stop.parent (λ other. other < 1)
    parent_is = subst (λ o. IfSome o (λ other. other < 1)) (sym parent) tt

    sound : IsSound (record { stops = stop ∷ []; trips = trip ∷ []; runs = sample_run ∷ []; zone = feed.zone; first_day = pos 0; days = 10 })
    sound = record {
      few_stops = omega arith;
      few_trips = omega arith;
      few_runs = omega arith;
      parents = All-cons (λ (s : Stop). IfSome s.parent (λ other. other < 1)) stop [] parent_is (All-nil (λ (s : Stop). IfSome s.parent (λ other. other < 1)));
      stop_ids = one_apart (λ (a b : Stop). a.id ≢ b.id) stop;
      trip_ids = one_apart (λ (a b : Trip). a.id ≢ b.id) trip;
      first_day = omega (arith, ints);
      last_day = omega (arith, ints);
      runs = All-cons (IsSoundRun 1 1) sample_run [] sample_sound_run (All-nil (IsSoundRun 1 1));
      run_names = one_apart IsRunBelow sample_run;
    }
