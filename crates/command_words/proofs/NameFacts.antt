-- The options, one name after the other.
use Rattle.std.proofs.Common.{◌≡◌, ◌∙◌, ◌+◌, ◌<◌, ◌≤◌, ℕ, Bor, List, [], ◌∷◌, length, get_or, map, take, refl, ap}
use Rattle.std.specs.Prelude.{fold}
use Rattle.std.proofs.lemmas.List.{map-append, take_all, take_more}
use Rattle.std.proofs.lemmas.List.Sums.{fold-append}
use Rattle.clap.specs.Words.{App, Rule, Text}
use Rattle.clap.specs.Simple.{with_rule}
use Rattle.command_words.specs.App.{option_rule, with_option}

-- an app with the options of the first names
abbrev pub with_first : App → ℕ → List (Bor Text) → App
with_first app n names = fold with_option app (map (λ name. name.now) (take n names))

pub with-one-more : (start : App) (names : List (Bor Text)) (n : ℕ) (d : Bor Text) (before after : App) (rule : Rule) → n < length names → before ≡ with_first start n names
    → after ≡ with_rule before rule → rule ≡ option_rule (get_or names n d).now → after ≡ with_first start (n + 1) names
with-one-more start names n d before after rule below so_far is rule_is =
    let more = take_more names n d below in
    rw (is, rule_is, so_far, more, map-append (λ (name : Bor Text). name.now) (take n names) (get_or names n d ∷ []), fold-append with_option start (map (λ name. name.now) (take n names)) ((get_or names n d).now ∷ [])) refl

pub with-all : (start : App) (names : List (Bor Text)) (n : ℕ) (app : App) → length names ≤ n → app ≡ with_first start n names → app ≡ fold with_option start (map (λ name. name.now) names)
with-all start names n app all is = is ∙ ap (λ some. fold with_option start (map (λ (name : Bor Text). name.now) some)) (take_all n names all)
