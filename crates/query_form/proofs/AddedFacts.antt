-- A query with one pair more.
use Rattle.std.proofs.Common.{◌≡◌, ◌≢◌, ◌∙◌, ◌==◌, ◌<◌, ℕ, Bool, true, false, List, [], ◌∷◌, ◌++◌, All, length, map, refl, ap, arith}
use Rattle.std.proofs.lemmas.Bool.{eq-eqb}
use Rattle.std.specs.Prelude.{filter}
use Rattle.std.proofs.lemmas.List.{map-append}
use Rattle.std.proofs.lemmas.List.Elements.{All-append, All-weaker, filter-append}
use Rattle.form_urlencoded.specs.Form.{is_nonempty, onto_first, raw_pairs, split, split_once, split_pair}
use Rattle.form_urlencoded.proofs.FormLemmas.{raw_pairs-nil, raw_pairs_first, split_once_after_at, split_once_after_none, split_once_before_at, split_once_before_none}
use Rattle.query_form.specs.Pairs.{pair_of, pairs_of}
use Rattle.query_form.proofs.CursorFacts.{IsKept, kept, text_of-kept}

-- ---- pieces between separators

record HasPieces (s : ℕ) (xs : List ℕ) : Type 0 where
  first : List ℕ
  rest : List (List ℕ)
  are : split s xs ≡ first ∷ rest

has-pieces : (s : ℕ) (xs : List ℕ) → HasPieces s xs
unfolding split
has-pieces s [] = record { first = []; rest = []; are = refl }
has-pieces s (b ∷ xs) = go (b == s) refl (has-pieces s xs)
  where
    go : (test : Bool) → (b == s) ≡ test → HasPieces s xs → HasPieces s (b ∷ xs)
    go true e more = record { first = []; rest = split s xs; are = rw e refl }
    go false e more = record { first = b ∷ more.first; rest = more.rest; are = rw (e, more.are) refl }

onto_first-append : (b : ℕ) (s : ℕ) (xs : List ℕ) (others : List (List ℕ)) → onto_first b (split s xs ++ others) ≡ onto_first b (split s xs) ++ others
onto_first-append b s xs others = let p = has-pieces s xs in rw p.are refl

-- what stands on the two sides of a separator
split-at : (s : ℕ) (xs ys : List ℕ) → split s (xs ++ s ∷ ys) ≡ split s xs ++ split s ys
unfolding split
split-at s [] ys = let same : (s == s) ≡ true = eq-eqb s s refl in rw same refl
split-at s (b ∷ xs) ys = go (b == s) refl (split-at s xs ys)
  where
    go : (test : Bool) → (b == s) ≡ test → split s (xs ++ s ∷ ys) ≡ split s xs ++ split s ys → split s (b ∷ (xs ++ s ∷ ys)) ≡ split s (b ∷ xs) ++ split s ys
    go true e more = rw (e, more) refl
    go false e more = rw (e, more) (onto_first-append b s xs (split s ys))

raw_pairs-at : (xs ys : List ℕ) → raw_pairs (xs ++ 38 ∷ ys) ≡ raw_pairs xs ++ raw_pairs ys
unfolding raw_pairs
raw_pairs-at xs ys =
    ap (λ pieces. map split_pair (filter is_nonempty pieces)) (split-at 38 xs ys)
    ∙ ap (map split_pair) (filter-append is_nonempty (split 38 xs) (split 38 ys)) ∙ map-append split_pair (filter is_nonempty (split 38 xs)) (filter is_nonempty (split 38 ys))

-- ---- a name and a value of bytes that stand for themselves

abbrev piece : List ℕ → List ℕ → List ℕ
piece name value = name ++ 61 ∷ value

no_separator : (name value : List ℕ) → All IsKept name → All IsKept value → All (λ b. b ≢ 38) (piece name value)
no_separator name value names values =
    All-weaker IsKept (λ b. b ≢ 38) (λ b k e. omega (arith, k.low, e)) (piece name value)
    (All-append IsKept name (61 ∷ value) names (All-append IsKept (61 ∷ []) value (kept (61 ∷ []) refl) values))

raw_pairs-piece : (x : ℕ) (name value : List ℕ) → All IsKept (x ∷ name) → All IsKept value → All (λ b. b ≢ 61) (x ∷ name) → raw_pairs (piece (x ∷ name) value) ≡ (x ∷ name, value) ∷ []
raw_pairs-piece x name value names values plain =
    let none = no_separator (x ∷ name) value names values in
    let before = split_once_before_none 38 (piece (x ∷ name) value) none in
    let after = split_once_after_none 38 (piece (x ∷ name) value) none in
    let some : 0 < length ((split_once 38 (piece (x ∷ name) value)).0) = rw before (omega arith) in
    raw_pairs_first (piece (x ∷ name) value) some
    ∙ (λ i. split_pair (before i) ∷ raw_pairs (after i))
    ∙ (λ i. (split_once_before_at 61 (x ∷ name) value plain i, split_once_after_at 61 (x ∷ name) value plain i) ∷ raw_pairs-nil i)

pub pairs_of-added : (query : List ℕ) (x : ℕ) (name value : List ℕ) → All IsKept (x ∷ name) → All IsKept value → All (λ b. b ≢ 61) (x ∷ name)
    → pairs_of (query ++ 38 ∷ piece (x ∷ name) value) ≡ pairs_of query ++ record { name = x ∷ name; value = value } ∷ []
pairs_of-added query x name value names values plain =
    let parts = raw_pairs-at query (piece (x ∷ name) value) ∙ ap (λ more. raw_pairs query ++ more) (raw_pairs-piece x name value names values plain) in
    let pair : pair_of (x ∷ name, value) ≡ record { name = x ∷ name; value = value } = λ i. record { name = text_of-kept (x ∷ name) names i; value = text_of-kept value values i } in
    ap (map pair_of) parts ∙ map-append pair_of (raw_pairs query) ((x ∷ name, value) ∷ []) ∙ ap (λ p. map pair_of (raw_pairs query) ++ p ∷ []) pair
