-- What is latest in a history, and what its feeds say of a name.
use Rattle.std.proofs.Common.{◌≡◌, ℕ, ◌+◌, ◌<◌, ◌≤◌, max, suc, zero, false, ◌==◌, List, [], ◌∷◌, ◌++◌, Option, Some, None, refl, sym, ◌∙◌, ap, arith}
use Rattle.std.specs.List.{find}
use Rattle.std.specs.Option.{option_map, option_map_or}
use Rattle.std.proofs.lemmas.Bool.{ne_eqb}
use Rattle.otp_model.specs.Moves.{first_of}
use Rattle.otp_model.specs.Resolution.{form}
use Rattle.otp_model.specs.Schedule.{form_after, form_by, form_up_to, latest, latest_or, message_in, most_feed, most_in}
use Rattle.otp_model.specs.declared.message.Commit.{Commit}
use Rattle.otp_model.specs.declared.message.Message.{Message}
use Rattle.otp_model.specs.declared.run_name.RunName.{RunName}
use Rattle.otp_model.specs.declared.timetable.Call.{Call}
use Rattle.otp_model.specs.declared.timetable.Feed.{Feed}

-- one more commit
pub latest_more : (before : Option Message) (number : ℕ) (history : List Commit) (commit : Commit)
    → latest_or before number (history ++ commit ∷ []) ≡ first_of (message_in number commit) (latest_or before number history)
unfolding latest_or
latest_more before number [] commit = refl
latest_more before number (first ∷ history) commit = latest_more (first_of (message_in number first) before) number history commit

pub most_more : (history : List Commit) (commit : Commit) → most_feed (history ++ commit ∷ []) ≡ max (most_feed history) (most_in commit.messages)
unfolding most_feed
most_more [] commit = omega arith
most_more (first ∷ history) commit = let later = most_more history commit in omega (arith, later)

none_in : (messages : List (ℕ × Message)) (number : ℕ) → most_in messages < number → find (λ (m : ℕ × Message). m.0 == number) messages ≡ None
unfolding most_in
none_in [] number h = refl
none_in (m ∷ messages) number h = let other : (m.0 == number) ≡ false = ne_eqb m.0 number (λ e. omega arith) in rw other (none_in messages number (omega arith))

-- a feed above all of a history has no message in it
latest_none : (before : Option Message) (number : ℕ) (history : List Commit) → most_feed history < number → latest_or before number history ≡ before
unfolding latest_or most_feed
latest_none before number [] h = refl
latest_none before number (commit ∷ history) h =
    let none : message_in number commit ≡ None = ap (option_map (λ (m : ℕ × Message). m.1)) (none_in commit.messages number (omega arith)) in
    rw none (latest_none before number history (omega arith))

silent : (feed : Feed) (history : List Commit) (number : ℕ) (name : RunName) → most_feed history < number → form_by feed history number name ≡ None
silent feed history number name h = ap (λ o. option_map_or (λ (message : Message). form feed message name) o None) (latest_none None number history h)

-- feeds above all of a history change nothing
pub form_above : (feed : Feed) (history : List Commit) (name : RunName) (more : ℕ) → form_up_to feed history (more + most_feed history) name ≡ form_after feed history name
unfolding form_up_to
form_above feed history name zero = let e : zero + most_feed history ≡ most_feed history = omega arith in ap (λ (n : ℕ). form_up_to feed history n name) e
form_above feed history name (suc more) =
    let e : suc more + most_feed history ≡ suc (more + most_feed history) = omega arith in
    ap (λ (n : ℕ). form_up_to feed history n name) e
    ∙ ap (λ o. first_of o (form_up_to feed history (more + most_feed history) name)) (silent feed history (suc (more + most_feed history)) name (omega arith))
    ∙ form_above feed history name more

-- a feed that says what counts
pub record IsSaid (feed : Feed) (history : List Commit) (upto : ℕ) (name : RunName) (said : Option (List Call)) : Type 0 where
  pub number : ℕ
  pub within : number ≤ upto
  pub message : Message
  pub latest_is : latest history number ≡ Some message
  pub form_is : form feed message name ≡ Some said

one_said : (feed : Feed) (history : List Commit) (number : ℕ) (name : RunName) (said : Option (List Call)) → form_by feed history number name ≡ Some said → IsSaid feed history number name said
one_said feed history number name said h = from (latest history number) refl (h)
  where
    from : (o : Option Message) → latest history number ≡ o → option_map_or (λ (message : Message). form feed message name) (latest history number) None ≡ Some said → IsSaid feed history number name said
    from None e h = absurd (let never : ◌≡◌ {A = Option (Option (List Call))} None (Some said) = sym (ap (λ p. option_map_or (λ (message : Message). form feed message name) p None) e) ∙ h in cc)
    from (Some message) e h = record {
      number = number;
      within = omega arith;
      message = message;
      latest_is = e;
      form_is = sym (ap (λ p. option_map_or (λ (m : Message). form feed m name) p None) e) ∙ h;
    }

pub who_said : (feed : Feed) (history : List Commit) (upto : ℕ) (name : RunName) (said : Option (List Call)) → form_up_to feed history upto name ≡ Some said → IsSaid feed history upto name said
unfolding form_up_to
who_said feed history zero name said h = one_said feed history zero name said h
who_said feed history (suc upto) name said h = from (form_by feed history (suc upto) name) refl (h) (λ k. who_said feed history upto name said k)
  where
    from : (o : Option (Option (List Call))) → form_by feed history (suc upto) name ≡ o → first_of (form_by feed history (suc upto) name) (form_up_to feed history upto name) ≡ Some said
        → (form_up_to feed history upto name ≡ Some said → IsSaid feed history upto name said) → IsSaid feed history (suc upto) name said
    from None e h lower =
        let s = lower (sym (ap (λ p. first_of p (form_up_to feed history upto name)) e) ∙ h) in
        record { number = s.number; within = (let w = s.within in omega arith); message = s.message; latest_is = s.latest_is; form_is = s.form_is }
    from (Some here) e h lower =
        one_said feed history (suc upto) name said (e ∙ (sym (ap (λ p. first_of p (form_up_to feed history upto name)) e) ∙ h))
