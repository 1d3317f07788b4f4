-- What clap's walk makes of words that keep to the rules.
use Rattle.std.proofs.Common.{◌≡◌, ◌∙◌, ◌++◌, ◌&&◌, ◌+◌, ◌≤◌, ◌==◌, ℕ, Bool, true, false, List, [], ◌∷◌, Option, Some, None, cond, refl, sym, ap, subst, codes, append_assoc, arith, option_map, slice_get}
use Rattle.std.specs.Prelude.{fold, unwrap_or}
use Rattle.std.specs.List.{count_by}
use Rattle.std.specs.Str.{bytes_eq}
use Rattle.std.proofs.lemmas.Slice.Eq.{bytes_eq-Decides}
use Rattle.std.proofs.lemmas.List.{append-nil}
use Rattle.std.proofs.lemmas.List.Sums.{sum_by-cons}
use Rattle.clap.proofs.SimpleLemmas.{is_false}
use Rattle.clap.proofs.WalkLemmas.{both}
use Rattle.command_words.proofs.WordFacts.{plain-first}
use Rattle.clap.specs.Walk.{Row, Text, Walk, has_row, reading_by, settled, settled_rows, walked, with_values}
use Rattle.clap.specs.Takes.{settle_passes, walk_passes}
use Rattle.clap.specs.declared.parser.matches.ValueSource.TheVariants.{CommandLine}
use Rattle.command_words.specs.Words.{dashed, is_option, is_plain, positionals_of, value_of}
use Rattle.command_words.proofs.ClapSteps.{IsKnown, known, option-passes, option-step, option_of, positional-passes, positional-step, positional_of, ready, rules, shape, value-passes, value-step}
use Rattle.command_words.proofs.ClapRows.{has-other, none-texts, texts_at, with-other, with-same, without-none}

-- ---- words within the rules, one use at a time

plain-word : (word : Text) → is_plain word ≡ true → (x : ℕ) × (xs : Text) × (word ≡ x ∷ xs) × ((x == 45) ≡ false)
plain-word [] h = cc
plain-word (x ∷ xs) h = (x, xs, refl, is_false (x == 45) h)

was-some : (b : Bool) (o : Option (List Text)) (ps : List Text) → cond b o None ≡ Some ps → (b ≡ true) × (o ≡ Some ps)
was-some true o ps h = (refl, h)
was-some false o ps h = cc

some-before : (word : Text) (o : Option (List Text)) (ps : List Text) → option_map (λ xs. word ∷ xs) o ≡ Some ps → (qs : List Text) × (o ≡ Some qs) × (word ∷ qs ≡ ps)
some-before word None ps h = cc
some-before word (Some qs) ps h = (qs, refl, ap (λ o. unwrap_or o []) h)

module _ (P : List Text → List Text → Type 0)
    (plain : (x : ℕ) (xs : Text) (rest ps : List Text) → (x == 45) ≡ false → P rest ps → P ((x ∷ xs) ∷ rest) ((x ∷ xs) ∷ ps))
    (option : (id : Text) (x : ℕ) (xs : Text) (rest ps : List Text) → IsKnown id → (x == 45) ≡ false → P rest ps → P (dashed id ∷ (x ∷ xs) ∷ rest) ps) where
  a-word : (word : Text) (rest ps : List Text) → is_plain word ≡ true → positionals_of (word ∷ rest) ≡ Some ps → ((qs : List Text) → positionals_of rest ≡ Some qs → P rest qs)
      → P (word ∷ rest) ps
  a-word word rest ps p h further =
      let before = some-before word (positionals_of rest) ps (sym (plain-first word rest p) ∙ h) in
      let w = plain-word word p in
      subst (P (word ∷ rest)) before.2 (subst (λ w. P (w ∷ rest) (w ∷ before.0)) (sym w.2) (plain w.0 w.1 rest before.0 w.3 (further before.0 before.1)))

  an-option : (word value : Text) (rest ps : List Text) → is_plain word ≡ false → positionals_of (word ∷ value ∷ rest) ≡ Some ps → (positionals_of rest ≡ Some ps → P rest ps)
      → P (word ∷ value ∷ rest) ps
  unfolding positionals_of
  an-option word value rest ps p h further =
      let was = was-some (is_option word && is_plain value) (positionals_of rest) ps (rw p at h) in
      let tests = both (is_option word) (is_plain value) was.0 in
      let k = known word tests.0 in
      let v = plain-word value tests.1 in
      subst (λ w. P (w ∷ value ∷ rest) ps) (sym k.1) (subst (λ v. P (dashed k.0 ∷ v ∷ rest) ps) (sym v.2) (option k.0 v.0 v.1 rest ps k.2 v.3 (further was.1)))

  no-option : (word : Text) (ps : List Text) → is_plain word ≡ false → positionals_of (word ∷ []) ≡ Some ps → ⊥
  unfolding positionals_of
  no-option word ps p h = let bad : None ≡ Some ps = rw p at h in cc

  pub by_uses : P [] [] → (words ps : List Text) → positionals_of words ≡ Some ps → P words ps
  unfolding positionals_of
  by_uses none [] ps h = subst (P []) (ap (λ o. unwrap_or o []) h) none
  by_uses none (word ∷ []) ps h = go (is_plain word) refl (λ qs e. by_uses none [] qs e)
    where
      go : (b : Bool) → is_plain word ≡ b → ((qs : List Text) → positionals_of [] ≡ Some qs → P [] qs) → P (word ∷ []) ps
      go true e further = a-word word [] ps e h further
      go false e further = absurd (no-option word ps e h)
  by_uses none (word ∷ next ∷ rest) ps h = go (is_plain word) refl (λ qs e. by_uses none (next ∷ rest) qs e) (λ e. by_uses none rest ps e)
    where
      go : (b : Bool) → is_plain word ≡ b → ((qs : List Text) → positionals_of (next ∷ rest) ≡ Some qs → P (next ∷ rest) qs) → (positionals_of rest ≡ Some ps → P rest ps)
          → P (word ∷ next ∷ rest) ps
      go true e further behind = a-word word (next ∷ rest) ps e h further
      go false e further behind = an-option word next rest ps e h behind

-- ---- the rows

-- how often an option's name is among the words
abbrev pub uses : Text → List Text → ℕ
uses id words = count_by (λ word. bytes_eq word (dashed id)) words

-- no option is used twice, with those that have rows
abbrev pub Fresh : List Text → List Row → Type 0
Fresh words rows = (id : Text) → IsKnown id → uses id words + cond (has_row id rows) 1 0 ≤ 1

-- a walk over words from these rows comes to its end
pub record Ends (given positionals : List Text) (rows : List Row) (end : Walk) : Type 0 where
  pub settles : settle_passes rules false end.held ≡ true
  pub stopped : end.stopped ≡ None
  pub words : texts_at (codes "words") (settled rules end.held).rows ≡ texts_at (codes "words") rows ++ positionals
  pub values : (id : Text) → IsKnown id → has_row id rows ≡ false → slice_get (texts_at id (settled rules end.held).rows) 0 ≡ value_of id given
  pub stays : (id : Text) → IsKnown id → uses id given ≡ 0 → texts_at id (settled rules end.held).rows ≡ texts_at id rows

abbrev pub Goes : List Text → List Text → List Row → Walk → Type 0
Goes words positionals rows start = (walk_passes shape [] start words ≡ true) × Ends words positionals rows (fold (walked rules []) start words)

abbrev pub Walks : List Text → List Text → Type 0
Walks words positionals = (rows : List Row) (pending : Option (Text × List Text)) (after : Bool)
    → settle_passes rules false (record { rows = rows; pending = pending; skip = 0 }) ≡ true
    → Fresh words (settled_rows rules pending rows)
    → Goes words positionals (settled_rows rules pending rows) (ready rows pending after)

no-words : Walks [] []
unfolding walk_passes value_of
no-words rows pending true settles fresh = (
  refl,
  record {
    settles = settles;
    stopped = refl;
    words = sym (append-nil _);
    values = λ id k none. ap (λ xs. slice_get xs 0) (none-texts id (settled_rows rules pending rows) none);
    stays = λ id k none. refl;
  },
)
no-words rows pending false settles fresh = (
  refl,
  record {
    settles = settles;
    stopped = refl;
    words = sym (append-nil _);
    values = λ id k none. ap (λ xs. slice_get xs 0) (none-texts id (settled_rows rules pending rows) none);
    stays = λ id k none. refl;
  },
)

plain-value : (id : Text) (x : ℕ) (xs : Text) (rest : List Text) → (x == 45) ≡ false → value_of id ((x ∷ xs) ∷ rest) ≡ value_of id rest
unfolding value_of
plain-value id x xs rest p = rw p refl

first-uses : (id word : Text) (rest : List Text) → uses id (word ∷ rest) ≡ cond (bytes_eq word (dashed id)) 1 0 + uses id rest
first-uses id word rest = sum_by-cons (λ w. cond (bytes_eq w (dashed id)) 1 0) word rest

plain-uses : (id : Text) (x : ℕ) (xs : Text) (rest : List Text) → (x == 45) ≡ false → uses id ((x ∷ xs) ∷ rest) ≡ uses id rest
plain-uses id x xs rest p = first-uses id (x ∷ xs) rest ∙ rw p (omega arith)

option-uses : (used id : Text) (x : ℕ) (xs : Text) (rest : List Text) → (x == 45) ≡ false → uses id (dashed used ∷ (x ∷ xs) ∷ rest) ≡ cond (bytes_eq used id) 1 0 + uses id rest
option-uses used id x xs rest p = first-uses id (dashed used) ((x ∷ xs) ∷ rest) ∙ ap (λ n. cond (bytes_eq used id) 1 0 + n) (plain-uses id x xs rest p)

option-value : (used id : Text) (x : ℕ) (xs : Text) (rest : List Text) → (x == 45) ≡ false → (b : Bool) → bytes_eq used id ≡ b
    → value_of id (dashed used ∷ (x ∷ xs) ∷ rest) ≡ cond b (Some (x ∷ xs)) (value_of id rest)
unfolding value_of
option-value used id x xs rest p true e = rw e refl
option-value used id x xs rest p false e = rw (e, p) refl

abbrev with_word : Text → List Row → List Row
with_word word = with_values (codes "words") (reading_by positional_of) CommandLine (word ∷ [])

abbrev with_option : Text → Text → List Row → List Row
with_option id value = with_values id (reading_by (option_of id)) CommandLine (value ∷ [])

-- ---- a positional word

word-fresh : (x : ℕ) (xs : Text) (rest : List Text) (rows : List Row) → (x == 45) ≡ false → Fresh ((x ∷ xs) ∷ rest) rows → Fresh rest (with_word (x ∷ xs) rows)
word-fresh x xs rest rows p fresh id k =
    let kept = has-other (codes "words") id (reading_by positional_of) CommandLine ((x ∷ xs) ∷ []) rows k.not_words in
    let f : uses id rest + cond (has_row id rows) 1 0 ≤ 1 = subst (λ n. n + cond (has_row id rows) 1 0 ≤ 1) (plain-uses id x xs rest p) (fresh id k) in
    rw kept f

word-ends : (x : ℕ) (xs : Text) (rest ps : List Text) (rows : List Row) (end : Walk) → (x == 45) ≡ false → Ends rest ps (with_word (x ∷ xs) rows) end
    → Ends ((x ∷ xs) ∷ rest) ((x ∷ xs) ∷ ps) rows end
word-ends x xs rest ps rows end p e =
    let how = reading_by positional_of in record {
      settles = e.settles;
      stopped = e.stopped;
      words = e.words ∙ ap (λ ts. ts ++ ps) (with-same (codes "words") how CommandLine ((x ∷ xs) ∷ []) rows refl) ∙ append_assoc (texts_at (codes "words") rows) ((x ∷ xs) ∷ []) ps;
      values = λ id k none. e.values id k (has-other (codes "words") id how CommandLine ((x ∷ xs) ∷ []) rows k.not_words ∙ none) ∙ sym (plain-value id x xs rest p);
      stays = λ id k none. e.stays id k (sym (plain-uses id x xs rest p) ∙ none) ∙ with-other (codes "words") id how CommandLine ((x ∷ xs) ∷ []) rows k.not_words;
    }

word-goes : (x : ℕ) (xs : Text) (rest ps : List Text) → (x == 45) ≡ false → Walks rest ps → Walks ((x ∷ xs) ∷ rest) ((x ∷ xs) ∷ ps)
unfolding walk_passes
word-goes x xs rest ps p further rows pending after settles fresh =
    let now = settled_rows rules pending rows in
    let step = positional-step rows pending after x xs p in
    let more = further now (Some (codes "words", (x ∷ xs) ∷ [])) true refl (word-fresh x xs rest now p fresh) in (
      rw (positional-passes rows pending after x xs p settles, step) more.0,
      word-ends x xs rest ps now _ p (subst (λ w. Ends rest ps (with_word (x ∷ xs) now) (fold (walked rules []) w rest)) (sym step) more.1),
    )

-- ---- an option with its value

option-has : (id : Text) (x : ℕ) (xs : Text) (rest : List Text) (rows : List Row) → IsKnown id → (x == 45) ≡ false → Fresh (dashed id ∷ (x ∷ xs) ∷ rest) rows
    → (has_row id rows ≡ false) × (uses id rest ≡ 0)
option-has id x xs rest rows k p fresh =
    let f : cond (bytes_eq id id) 1 0 + uses id rest + cond (has_row id rows) 1 0 ≤ 1 = subst (λ n. n + cond (has_row id rows) 1 0 ≤ 1) (option-uses id id x xs rest p) (fresh id k) in
    let one : cond true 1 0 + uses id rest + cond (has_row id rows) 1 0 ≤ 1 = subst (λ b. cond b 1 0 + uses id rest + cond (has_row id rows) 1 0 ≤ 1) k.same f in
    go (has_row id rows) one
  where
    go : (b : Bool) → 1 + uses id rest + cond b 1 0 ≤ 1 → (b ≡ false) × (uses id rest ≡ 0)
    go true h = absurd (omega arith)
    go false h = (refl, omega arith)

at_most_one : (b : Bool) (n : ℕ) → n ≡ 0 → n + cond b 1 0 ≤ 1
at_most_one true n e = omega arith
at_most_one false n e = omega arith

option-fresh : (used : Text) (x : ℕ) (xs : Text) (rest : List Text) (rows : List Row) → (x == 45) ≡ false → Fresh (dashed used ∷ (x ∷ xs) ∷ rest) rows
    → Fresh rest (with_option used (x ∷ xs) rows)
option-fresh used x xs rest rows p fresh id k =
    go (bytes_eq used id) refl (subst (λ n. n + cond (has_row id rows) 1 0 ≤ 1) (option-uses used id x xs rest p) (fresh id k))
  where
    go : (b : Bool) → bytes_eq used id ≡ b → cond (bytes_eq used id) 1 0 + uses id rest + cond (has_row id rows) 1 0 ≤ 1
        → uses id rest + cond (has_row id (with_option used (x ∷ xs) rows)) 1 0 ≤ 1
    go true e f =
        let g : 1 + uses id rest + cond (has_row id rows) 1 0 ≤ 1 = subst (λ b. cond b 1 0 + uses id rest + cond (has_row id rows) 1 0 ≤ 1) e f in
        at_most_one (has_row id (with_option used (x ∷ xs) rows)) (uses id rest) (omega arith)
    go false e f =
        let g : 0 + uses id rest + cond (has_row id rows) 1 0 ≤ 1 = subst (λ b. cond b 1 0 + uses id rest + cond (has_row id rows) 1 0 ≤ 1) e f in
        let kept = has-other used id (reading_by (option_of used)) CommandLine ((x ∷ xs) ∷ []) rows e in
        subst (λ b. uses id rest + cond b 1 0 ≤ 1) (sym kept) (omega arith)

option-rows : (id value : Text) (rows : List Row) → IsKnown id → has_row id rows ≡ false → settled_rows rules (Some (id, value ∷ [])) rows ≡ with_option id value rows
option-rows id value rows k none = rw (k.by_id, without-none id rows none) refl

option-settles : (id value : Text) (rows : List Row) → IsKnown id → has_row id rows ≡ false
    → settle_passes rules false (record { rows = rows; pending = Some (id, value ∷ []); skip = 0 }) ≡ true
option-settles id value rows k none = rw (k.by_id, none) refl

option-ends : (used : Text) (x : ℕ) (xs : Text) (rest ps : List Text) (rows : List Row) (end : Walk) → IsKnown used → (x == 45) ≡ false
    → has_row used rows ≡ false → uses used rest ≡ 0 → Ends rest ps (with_option used (x ∷ xs) rows) end
    → Ends (dashed used ∷ (x ∷ xs) ∷ rest) ps rows end
option-ends used x xs rest ps rows end u p new gone e =
    let how = reading_by (option_of used) in record {
      settles = e.settles;
      stopped = e.stopped;
      words = e.words ∙ ap (λ ts. ts ++ ps) (with-other used (codes "words") how CommandLine ((x ∷ xs) ∷ []) rows u.no_words);
      values = λ id k none. values id k none (bytes_eq used id) refl;
      stays = λ id k none. stays id k (bytes_eq used id) refl (sym (option-uses used id x xs rest p) ∙ none);
    }
  where
    values : (id : Text) → IsKnown id → has_row id rows ≡ false → (b : Bool) → bytes_eq used id ≡ b
        → slice_get (texts_at id (settled rules end.held).rows) 0 ≡ value_of id (dashed used ∷ (x ∷ xs) ∷ rest)
    values id k none true same = subst (λ i. slice_get (texts_at i (settled rules end.held).rows) 0 ≡ value_of i (dashed used ∷ (x ∷ xs) ∷ rest)) ((bytes_eq-Decides used id).0 same)
        (ap (λ ts. slice_get ts 0) (e.stays used u gone ∙ with-same used (reading_by (option_of used)) CommandLine ((x ∷ xs) ∷ []) rows u.same ∙ ap (λ ts. ts ++ (x ∷ xs) ∷ []) (none-texts used rows new))
        ∙ sym (option-value used used x xs rest p true u.same))
    values id k none false same =
        e.values id k (has-other used id (reading_by (option_of used)) CommandLine ((x ∷ xs) ∷ []) rows same ∙ none) ∙ sym (option-value used id x xs rest p false same)

    stays : (id : Text) → IsKnown id → (b : Bool) → bytes_eq used id ≡ b → cond (bytes_eq used id) 1 0 + uses id rest ≡ 0
        → texts_at id (settled rules end.held).rows ≡ texts_at id rows
    stays id k true same none =
        let bad : 1 + uses id rest ≡ 0 = subst (λ b. cond b 1 0 + uses id rest ≡ 0) same none in
        absurd (omega arith)
    stays id k false same none =
        let no : 0 + uses id rest ≡ 0 = subst (λ b. cond b 1 0 + uses id rest ≡ 0) same none in
        e.stays id k (omega arith) ∙ with-other used id (reading_by (option_of used)) CommandLine ((x ∷ xs) ∷ []) rows same

option-goes : (id : Text) (x : ℕ) (xs : Text) (rest ps : List Text) → IsKnown id → (x == 45) ≡ false → Walks rest ps → Walks (dashed id ∷ (x ∷ xs) ∷ rest) ps
unfolding walk_passes
option-goes id x xs rest ps k p further rows pending after settles fresh =
    let now = settled_rows rules pending rows in
    let new = option-has id x xs rest now k p fresh in
    let none = new.0 in
    let step = option-step id k rows pending after in
    let next = value-step id k now x xs p in
    let are = option-rows id (x ∷ xs) now k none in
    let more = further now (Some (id, (x ∷ xs) ∷ [])) false (option-settles id (x ∷ xs) now k none) (subst (Fresh rest) (sym are) (option-fresh id x xs rest now p fresh)) in
    let end = subst (λ r. Ends rest ps r (fold (walked rules []) (ready now (Some (id, (x ∷ xs) ∷ [])) false) rest)) are more.1 in
    let from_value = subst (λ w. Ends rest ps (with_option id (x ∷ xs) now) (fold (walked rules []) w rest)) (sym next) end in
    let from_name = subst (λ w. Ends rest ps (with_option id (x ∷ xs) now) (fold (walked rules []) (walked rules [] w (x ∷ xs)) rest)) (sym step) from_value in (
      rw (option-passes id k rows pending after settles, step, value-passes id k now x xs p, next) more.0,
      option-ends id x xs rest ps now _ k p none new.1 from_name,
    )

pub walks : (words positionals : List Text) → positionals_of words ≡ Some positionals → Walks words positionals
walks = by_uses Walks word-goes option-goes no-words
