-- Calls that updates give one after the other.
use Rattle.std.proofs.Common.{◌≡◌, ℕ, ◌+◌, ◌<◌, ◌≤◌, List, [], ◌∷◌, length, get_or, drop, Option, None, Some, refl, ap}
use Rattle.std.specs.Option.{option_map}
use Rattle.std.proofs.lemmas.List.{drop_all}
use Rattle.otp_base.specs.Optionals.{◌>>=◌}
use Rattle.otp_model.specs.Moves.{given_call, given_from}
use Rattle.otp_model.specs.declared.message.StopUpdate.{StopUpdate}
use Rattle.otp_model.specs.declared.timetable.Call.{Call}
use Rattle.otp_model.specs.declared.timetable.Stop.{Stop}
use Rattle.rt_resolve.proofs.ListLemmas.{drop_here}

module _ (stops : List Stop) (updates : List StopUpdate) (i : ℕ) where
  module _ (update : StopUpdate) (less : i < length updates) (is : update ≡ get_or updates i update) (seq : ℕ) where
    pub none_given : (f : List Call → List Call) → given_call stops seq update ≡ None → None ≡ option_map f (given_from stops seq (drop i updates))
    unfolding given_from
    none_given f none = rw (drop_here updates i update less is, none) refl

    -- a call that is given goes before those that the updates behind give
    pub one_given : (before after : List Call → List Call) (call : Call) → given_call stops seq update ≡ Some call
        → ((rest : List Call) → after rest ≡ before (call ∷ rest))
        → option_map after (given_from stops (seq + 1) (drop (i + 1) updates)) ≡ option_map before (given_from stops seq (drop i updates))
    unfolding given_from
    one_given before after call some pushed = rw (drop_here updates i update less is, some) (by (given_from stops (seq + 1) (drop (i + 1) updates)))
      where
        by : (rest : Option (List Call)) → option_map after rest ≡ option_map before (rest >>= (λ (calls : List Call). Some (call ∷ calls)))
        by None = refl
        by (Some rest) = ap (λ (calls : List Call). Some calls) (pushed rest)

  pub all_given : (f : List Call → List Call) (seq : ℕ) → length updates ≤ i → Some (f []) ≡ option_map f (given_from stops seq (drop i updates))
  unfolding given_from
  all_given f seq over = rw (drop_all i updates over) refl
