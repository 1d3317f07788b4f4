-- What clap gives for words that keep to the rules.
use Rattle.std.proofs.Common.{◌≡◌, ◌∙◌, Bool, true, false, List, [], ◌∷◌, Option, Some, None, cond, refl, ap, codes, arith, option_map, slice_get}
use Rattle.std.specs.Prelude.{fold, find, unwrap_or, option_and_then, nat_le}
use Rattle.std.specs.List.{list_all}
use Rattle.std.specs.Str.{bytes_eq}
use Rattle.std.proofs.lemmas.Bool.Decides.{nat_tests}
use Rattle.clap.specs.Walk.{Held, walk, walk_from, Row, Rule, Text, all_of, finished, first_of, has_row, is_empty, nothing_held, settled, with_default}
use Rattle.clap.specs.Simple.{built, matches_of}
use Rattle.clap.specs.Takes.{takes}
use Rattle.clap.proofs.TakesLemmas.{leaf_takes}
use Rattle.clap.proofs.SimpleLemmas.{is_nil}
use Rattle.clap.proofs.WalkLemmas.{both}
use Rattle.command_words.specs.App.{words_app}
use Rattle.command_words.specs.Words.{are_once, is_once, option_names, positionals_of, value_of}
use Rattle.command_words.proofs.ClapSteps.{IsKnown, all-has, is_simple_app, rules}
use Rattle.command_words.proofs.ClapRows.{texts_at}
use Rattle.command_words.proofs.ClapWalk.{Fresh, Goes, uses, walks}

-- ---- no argument has a default

same_rows : (b : Bool) (rows : List Row) → cond b rows rows ≡ rows
same_rows true rows = refl
same_rows false rows = refl

no-default : (rows : List Row) (a : Rule) → is_empty a.defaults ≡ true → with_default rows a ≡ rows
no-default rows a h = rw (is_nil a.defaults h) (same_rows (has_row a.id rows) rows)

no-defaults : (rs : List Rule) (rows : List Row) → list_all (λ a. is_empty a.defaults) rs ≡ true → fold with_default rows rs ≡ rows
no-defaults [] rows h = refl
no-defaults (a ∷ rs) rows h =
    let parts = both (is_empty a.defaults) (list_all (λ a. is_empty a.defaults) rs) h in
    ap (λ r. fold with_default r rs) (no-default rows a parts.0) ∙ no-defaults rs rows parts.1

finished-is : (h : Held) → finished rules h ≡ (settled rules h).rows
finished-is h = no-defaults rules (settled rules h).rows refl

-- ---- each option is used once at most

fresh : (words : List Text) → are_once words ≡ true → Fresh words []
fresh words once id k =
    let one : nat_le (uses id words) 1 ≡ true = all-has (is_once words) id option_names once k.has in
    grind (arith, nat_tests)

goes : (words positionals : List Text) → positionals_of words ≡ Some positionals → are_once words ≡ true → Goes words positionals [] (walk_from nothing_held)
goes words positionals h once = walks words positionals h [] None false refl (fresh words once)

-- clap takes the words
pub words-taken : (name : Text) (words positionals : List Text) → positionals_of words ≡ Some positionals → are_once words ≡ true → takes words_app (name ∷ words) ≡ true
words-taken name words positionals h once =
    let g = goes words positionals h once in
    rw is_simple_app (leaf_takes (built words_app) nothing_held words refl (rw (g.0, g.1.settles) refl))

rows-are : (name : Text) (words : List Text) → matches_of words_app (name ∷ words) ≡ (settled rules (walk rules [] nothing_held words).held).rows
rows-are name words = finished-is (walk rules [] nothing_held words).held

-- its positional words are ours
pub words-matched : (name : Text) (words positionals : List Text) → positionals_of words ≡ Some positionals → are_once words ≡ true
    → unwrap_or (all_of (codes "words") (matches_of words_app (name ∷ words))) [] ≡ positionals
words-matched name words positionals h once =
    ap (texts_at (codes "words")) (rows-are name words) ∙ (goes words positionals h once).1.words

first-text : (id : Text) (rows : List Row) → first_of id rows ≡ slice_get (texts_at id rows) 0
first-text id rows = go (find (λ r. bytes_eq r.id id) rows)
  where
    go : (o : Option Row) → option_and_then (λ r. slice_get r.values 0) o ≡ slice_get (unwrap_or (option_map (λ r. r.values) o) []) 0
    go None = refl
    go (Some r) = refl

-- and so is the value of each option
pub value-matched : (name id : Text) (words positionals : List Text) → positionals_of words ≡ Some positionals → are_once words ≡ true → IsKnown id
    → first_of id (matches_of words_app (name ∷ words)) ≡ value_of id words
value-matched name id words positionals h once k =
    first-text id _ ∙ ap (λ rows. slice_get (texts_at id rows) 0) (rows-are name words) ∙ (goes words positionals h once).1.values id k refl
