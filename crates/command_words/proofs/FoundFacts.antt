-- What the words are, by what clap found in them.
use Rattle.std.proofs.Common.{◌≡◌, ◌∙◌, ℕ, true, List, ◌∷◌, Option, Some, None, is_some, refl, sym, ap, subst, codes}
use Rattle.clap.specs.Words.{HasMatchesOf, first_of, found_of, matches_of, rows_of, takes}
use Rattle.clap.proofs.WalkLemmas.{first_value-rows}
use Rattle.clap.specs.declared.parser.matches.ArgMatches.{ArgMatches}
use Rattle.command_words.specs.App.{found_text, found_words, words_app}
use Rattle.command_words.specs.Commands.{task_of, task_on}
use Rattle.otp_base.specs.Optionals.{◌>>=◌}
use Rattle.command_words.specs.Serving.{serving_given}
use Rattle.command_words.specs.Values.{options_in}
use Rattle.command_words.specs.Words.{are_once, option_names, positionals_of, value_of}
use Rattle.command_words.proofs.ClapFacts.{value-matched, words-matched, words-taken}
use Rattle.command_words.proofs.ClapSteps.{IsKnown, has_name, is_simple_app, knows}

had : (o : Option (List (List ℕ))) → is_some o ≡ true → (xs : List (List ℕ)) × (o ≡ Some xs)
had None h = cc
had (Some xs) h = (xs, refl)

-- clap takes words within the rules
pub line-taken : (words rest : List (List ℕ)) (name : List ℕ) → words ≡ name ∷ rest → is_some (positionals_of rest) ≡ true → are_once rest ≡ true
    → takes words_app words ≡ true
line-taken words rest name w form once =
    let p = had (positionals_of rest) form in
    subst (λ ws. takes words_app ws ≡ true) (sym w) (words-taken name rest p.0 p.1 once)

-- look-ups that agree on the options' names give the same options
options-agree : (f g : List ℕ → Option (List ℕ)) → ((id : List ℕ) → IsKnown id → f id ≡ g id) → options_in f ≡ options_in g
unfolding options_in
options-agree f g same =
    let on : (id : List ℕ) → has_name option_names id ≡ true → f id ≡ g id = λ id has. same id (knows id has) in
    rw (on (codes "zone") refl, on (codes "from") refl, on (codes "days") refl, on (codes "feeds") refl, on (codes "speed") refl, on (codes "reach") refl, on (codes "scale") refl) refl

serving-agree : (f g : List ℕ → Option (List ℕ)) → ((id : List ℕ) → IsKnown id → f id ≡ g id) → serving_given f ≡ serving_given g
serving-agree f g same =
    let on : (id : List ℕ) → has_name option_names id ≡ true → f id ≡ g id = λ id has. same id (knows id has) in
    rw (on (codes "port") refl, on (codes "workers") refl, on (codes "connections") refl) refl

-- and what it finds in them is what they ask for
pub line-read : (words rest : List (List ℕ)) (name : List ℕ) (m : ArgMatches) → words ≡ name ∷ rest → is_some (positionals_of rest) ≡ true → are_once rest ≡ true
    → HasMatchesOf words_app words m
    → task_of words ≡ (options_in (found_text m) >>= task_on name (found_words (rows_of (found_of m))) (serving_given (found_text m)))
line-read words rest name m w form once has =
    let p = had (positionals_of rest) form in
    let rows : rows_of (found_of m) ≡ matches_of words_app (name ∷ rest) = (has is_simple_app).0 ∙ ap (matches_of words_app) w in
    let on : p.0 ≡ found_words (rows_of (found_of m)) = sym (ap found_words rows ∙ words-matched name rest p.0 p.1 once) in
    let same : (id : List ℕ) → IsKnown id → value_of id rest ≡ found_text m id = λ id k.
    sym (first_value-rows (found_of m) id ∙ ap (first_of id) rows ∙ value-matched name id rest p.0 p.1 once k) in
    let options : options_in (λ name. value_of name rest) ≡ options_in (found_text m) = options-agree (λ name. value_of name rest) (found_text m) same in
    let serving : serving_given (λ name. value_of name rest) ≡ serving_given (found_text m) = serving-agree (λ name. value_of name rest) (found_text m) same in
    rw (w, p.1, once, options, serving, on) refl
