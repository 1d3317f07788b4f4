-- Calls that come behind those of a course.
use Rattle.std.proofs.Common.{◌≡◌, ℤ, List, [], ◌∷◌, ◌++◌, Option, Some, None, refl, sym, ap, ◌∙◌, append_assoc}
use Rattle.std.specs.Prelude.{unwrap_or}
use Rattle.std.specs.Int.{int_max}
use Rattle.std.proofs.lemmas.List.{append-nil}
use Rattle.otp_model.specs.Moves.{raised_above}
use Rattle.otp_model.specs.declared.timetable.Call.{Call}
use Rattle.rt_resolve.specs.Courses.{raised_behind, with_calls}
use Rattle.rt_resolve.specs.declared.course.Course.{Course}

none_behind : (latest : Option ℤ) → raised_behind latest [] ≡ []
unfolding raised_above
none_behind None = refl
none_behind (Some time) = refl

-- with nothing behind them a course has its own calls
pub with_none : (course : Course) → course.calls ≡ with_calls course []
with_none course = sym (ap (λ (behind : List Call). course.calls ++ behind) (none_behind course.latest) ∙ append-nil course.calls)

-- of calls that come behind a time the first is raised above it, and the others come behind the first
first_behind : (latest : Option ℤ) (call : Call) (rest : List Call) (l a d : ℤ)
    → l ≡ unwrap_or latest call.arrival → a ≡ int_max l call.arrival → d ≡ int_max a call.departure
    → raised_behind latest (call ∷ rest) ≡ record call { arrival = a; departure = d } ∷ raised_above d rest
unfolding raised_above
first_behind None call rest l a d el ea ed = rw (ed, ea, el) refl
first_behind (Some time) call rest l a d el ea ed = rw (ed, ea, el) refl

-- what a course becomes once a call is raised and put behind the others
pub push_raised : (course : Course) (call : Call) (l a d : ℤ) (calls : List Call)
    → l ≡ unwrap_or course.latest call.arrival → a ≡ int_max l call.arrival → d ≡ int_max a call.departure
    → calls ≡ course.calls ++ record call { arrival = a; departure = d } ∷ []
    → (rest : List Call) → with_calls (record { calls = calls; latest = Some d }) rest ≡ with_calls course (call ∷ rest)
push_raised course call l a d calls el ea ed same rest =
    ap (λ (before : List Call). before ++ raised_above d rest) same
    ∙ append_assoc course.calls (record call { arrival = a; departure = d } ∷ []) (raised_above d rest)
    ∙ ap (λ (behind : List Call). course.calls ++ behind) (sym (first_behind course.latest call rest l a d el ea ed))
