-- What one word makes of clap's walk.
use Rattle.std.proofs.Common.{◌≡◌, ◌&&◌, ◌||◌, ◌++◌, not, map, ap, ℕ, Bool, true, false, List, [], ◌∷◌, Option, Some, None, cond, refl, codes, ◌==◌}
use Rattle.std.specs.Str.{bytes_eq}
use Rattle.std.specs.List.{before_first, list_all, list_any}
use Rattle.std.proofs.lemmas.Slice.Eq.{bytes_eq-Decides}
use Rattle.clap.proofs.SimpleLemmas.{is_false}
use Rattle.clap.proofs.WalkLemmas.{both}
use Rattle.clap.specs.Lexer.{has_byte, long_of, short_of}
use Rattle.clap.specs.Walk.{Row, Rule, Text, Walk, arg_by_id, arg_by_long, is_pending, walked, settled_rows, idle, option, positional}
use Rattle.clap.specs.Simple.{built, filled, is_simple, with_index, help_rule, names_of, Shape}
use Rattle.clap.specs.Takes.{settle_passes, turn_passes}
use Rattle.command_words.specs.App.{option_rule, positional_rule, words_app}
use Rattle.command_words.specs.Words.{dashed, is_option, option_names}

-- the rules, as building leaves them
abbrev pub option_of : Text → Rule
option_of name = filled (option_rule name)

abbrev pub positional_of : Rule
positional_of = with_index 1 (filled positional_rule)

abbrev pub others : List Rule
others = positional_of ∷ filled help_rule ∷ []

abbrev pub rules : List Rule
rules = map option_of option_names ++ others

pub is_simple_app : is_simple words_app ≡ true
is_simple_app = refl

pub rules-built : (built words_app).top.rules ≡ rules
rules-built = refl

pub names-built : names_of (built words_app) ≡ []
names-built = refl

-- between two uses: the rows, what is pending, and whether the last word was positional
abbrev pub ready : List Row → Option (Text × List Text) → Bool → Walk
ready rows pending after = record {
  held = record { rows = rows; pending = pending; skip = 0 };
  waiting = cond after positional idle;
  position = 1;
  is_trailing = false;
  stopped = None;
}

-- behind an option's name
abbrev pub expecting : List Row → Text → Walk
expecting rows id = record {
  held = record { rows = rows; pending = Some (id, []); skip = 0 };
  waiting = option id;
  position = 1;
  is_trailing = false;
  stopped = None;
}

-- whether a name is among these
abbrev pub has_name : List Text → Text → Bool
has_name names id = list_any (λ name. bytes_eq name id) names

-- what clap finds by an option's name
pub record IsKnown (id : Text) : Type 0 where
  pub has : has_name option_names id ≡ true
  pub long : long_of (dashed id) ≡ Some (id, None)
  pub no_end : bytes_eq (dashed id) (45 ∷ 45 ∷ []) ≡ false
  pub by_long : arg_by_long rules id ≡ Some (option_of id)
  pub by_id : arg_by_id rules id ≡ Some (option_of id)
  pub same : bytes_eq id id ≡ true
  pub not_words : bytes_eq (codes "words") id ≡ false
  pub no_words : bytes_eq id (codes "words") ≡ false

or-true : (a b : Bool) → b ≡ true → (a || b) ≡ true
or-true true b h = refl
or-true false b h = h

and-false : (b : Bool) → (b && false) ≡ false
and-false true = refl
and-false false = refl

plain-end : (x : ℕ) (xs : Text) → (x == 45) ≡ false → bytes_eq (x ∷ xs) (45 ∷ 45 ∷ []) ≡ false
plain-end x xs p = rw p refl

plain-long : (x : ℕ) (xs : Text) → (x == 45) ≡ false → long_of (x ∷ xs) ≡ None
plain-long x xs p = rw p refl

plain-short : (x : ℕ) (xs : Text) → (x == 45) ≡ false → short_of (x ∷ xs) ≡ None
plain-short x xs p = rw p refl

pub option-step : (id : Text) → IsKnown id → (rows : List Row) (pending : Option (Text × List Text)) (after : Bool)
    → walked rules [] (ready rows pending after) (dashed id) ≡ expecting (settled_rows rules pending rows) id
unfolding walked
option-step id k rows pending true = rw (k.no_end, k.long, k.by_long) refl
option-step id k rows pending false = rw (k.no_end, k.long, k.by_long) refl

pub value-step : (id : Text) → IsKnown id → (rows : List Row) (x : ℕ) (xs : Text) → (x == 45) ≡ false
    → walked rules [] (expecting rows id) (x ∷ xs) ≡ ready rows (Some (id, (x ∷ xs) ∷ [])) false
unfolding walked
value-step id k rows x xs p = rw (plain-end x xs p, plain-long x xs p, plain-short x xs p, k.by_id, k.same) refl

pub positional-step : (rows : List Row) (pending : Option (Text × List Text)) (after : Bool) (x : ℕ) (xs : Text) → (x == 45) ≡ false
    → walked rules [] (ready rows pending after) (x ∷ xs) ≡ ready (settled_rows rules pending rows) (Some (codes "words", (x ∷ xs) ∷ [])) true
unfolding walked
positional-step rows pending true x xs p = rw (plain-end x xs p, plain-long x xs p, plain-short x xs p, and-false (is_pending positional_of pending)) refl
positional-step rows pending false x xs p = rw (plain-end x xs p, plain-long x xs p, plain-short x xs p, and-false (is_pending positional_of pending)) refl

-- ---- the same words pass

abbrev pub shape : Shape
shape = (built words_app).top

pub option-passes : (id : Text) → IsKnown id → (rows : List Row) (pending : Option (Text × List Text)) (after : Bool)
    → settle_passes rules false (record { rows = rows; pending = pending; skip = 0 }) ≡ true
    → turn_passes shape [] (ready rows pending after) (dashed id) ≡ true
option-passes id k rows pending true s = rw (k.no_end, k.long, k.by_long, s) refl
option-passes id k rows pending false s = rw (k.no_end, k.long, k.by_long, s) refl

pub value-passes : (id : Text) → IsKnown id → (rows : List Row) (x : ℕ) (xs : Text) → (x == 45) ≡ false
    → turn_passes shape [] (expecting rows id) (x ∷ xs) ≡ true
value-passes id k rows x xs p = rw (plain-end x xs p, plain-long x xs p, plain-short x xs p) refl

pub positional-passes : (rows : List Row) (pending : Option (Text × List Text)) (after : Bool) (x : ℕ) (xs : Text) → (x == 45) ≡ false
    → settle_passes rules false (record { rows = rows; pending = pending; skip = 0 }) ≡ true
    → turn_passes shape [] (ready rows pending after) (x ∷ xs) ≡ true
positional-passes rows pending true x xs p s = rw (plain-end x xs p, plain-long x xs p, plain-short x xs p, and-false (is_pending positional_of pending), s) refl
positional-passes rows pending false x xs p s = rw (plain-end x xs p, plain-long x xs p, plain-short x xs p, and-false (is_pending positional_of pending), s) refl

-- ---- the options

pub all-has : (p : Text → Bool) (id : Text) (names : List Text) → list_all p names ≡ true → has_name names id ≡ true → p id ≡ true
all-has p id [] all has = cc
all-has p id (name ∷ names) all has =
    let parts = both (p name) (list_all p names) all in
    go (bytes_eq name id) refl parts.0 (all-has p id names parts.1)
  where
    go : (b : Bool) → bytes_eq name id ≡ b → p name ≡ true → (has_name names id ≡ true → p id ≡ true) → p id ≡ true
    go true e here further = let is : name ≡ id = (bytes_eq-Decides name id).0 e in rw (← is) here
    go false e here further = further (rw e at has)

by-long : (names : List Text) (more : List Rule) (id : Text) → has_name names id ≡ true → arg_by_long (map option_of names ++ more) id ≡ Some (option_of id)
by-long [] more id has = cc
by-long (name ∷ names) more id has = go (bytes_eq name id) refl (by-long names more id)
  where
    go : (b : Bool) → bytes_eq name id ≡ b → (has_name names id ≡ true → arg_by_long (map option_of names ++ more) id ≡ Some (option_of id))
        → arg_by_long (map option_of (name ∷ names) ++ more) id ≡ Some (option_of id)
    go true e further = rw e (ap (λ n. Some (option_of n)) ((bytes_eq-Decides name id).0 e))
    go false e further = rw e (further (rw e at has))

by-id : (names : List Text) (more : List Rule) (id : Text) → has_name names id ≡ true → arg_by_id (map option_of names ++ more) id ≡ Some (option_of id)
by-id [] more id has = cc
by-id (name ∷ names) more id has = go (bytes_eq name id) refl (by-id names more id)
  where
    go : (b : Bool) → bytes_eq name id ≡ b → (has_name names id ≡ true → arg_by_id (map option_of names ++ more) id ≡ Some (option_of id))
        → arg_by_id (map option_of (name ∷ names) ++ more) id ≡ Some (option_of id)
    go true e further = rw e (ap (λ n. Some (option_of n)) ((bytes_eq-Decides name id).0 e))
    go false e further = rw e (further (rw e at has))

-- with nothing in it that clap reads otherwise, and other than the id of the positional words
abbrev is_name : Text → Bool
is_name [] = false
is_name (x ∷ xs) =
    not (has_byte 61 (x ∷ xs)) && (bytes_eq (before_first (λ b. b == 61) (x ∷ xs)) (x ∷ xs)
    && (not (bytes_eq (codes "words") (x ∷ xs)) && not (bytes_eq (x ∷ xs) (codes "words"))))

are-names : list_all is_name option_names ≡ true
are-names = refl

name-known : (id : Text) → has_name option_names id ≡ true → is_name id ≡ true → IsKnown id
name-known [] has h = cc
name-known (x ∷ xs) has h =
    let id : Text = x ∷ xs in
    let a = both (not (has_byte 61 id)) _ h in
    let b = both (bytes_eq (before_first (λ b. b == 61) id) id) _ a.1 in
    let c = both (not (bytes_eq (codes "words") id)) (not (bytes_eq id (codes "words"))) b.1 in
    let none : has_byte 61 id ≡ false = is_false _ a.0 in
    let whole : before_first (λ b. b == 61) id ≡ id = (bytes_eq-Decides (before_first (λ b. b == 61) id) id).0 b.0 in record {
      has = has;
      long = rw (none, whole) refl;
      no_end = refl;
      by_long = by-long option_names others id has;
      by_id = by-id option_names others id has;
      same = (bytes_eq-Decides id id).1 refl;
      not_words = is_false _ c.0;
      no_words = is_false _ c.1;
    }

-- each option's name is known
pub knows : (id : Text) → has_name option_names id ≡ true → IsKnown id
knows id has = name-known id has (all-has is_name id option_names are-names has)

abbrev pub Option-of : Text → Type 0
Option-of word = (id : Text) × (word ≡ dashed id) × IsKnown id

named : (word : Text) (names : List Text) → list_any (λ name. bytes_eq word (dashed name)) names ≡ true → (id : Text) × (word ≡ dashed id) × (has_name names id ≡ true)
named word [] h = cc
named word (name ∷ names) h = go (bytes_eq word (dashed name)) refl (named word names)
  where
    go : (b : Bool) → bytes_eq word (dashed name) ≡ b
        → (list_any (λ name. bytes_eq word (dashed name)) names ≡ true → (id : Text) × (word ≡ dashed id) × (has_name names id ≡ true))
        → (id : Text) × (word ≡ dashed id) × (has_name (name ∷ names) id ≡ true)
    go true e further = (name, (bytes_eq-Decides word (dashed name)).0 e, rw ((bytes_eq-Decides name name).1 refl) refl)
    go false e further =
        let rest = further (rw e at h) in
        (rest.0, rest.1, or-true (bytes_eq name rest.0) _ rest.2)

pub known : (word : Text) → is_option word ≡ true → Option-of word
known word h = let n = named word option_names h in (n.0, n.1, knows n.0 n.2)
