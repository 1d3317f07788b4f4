-- Where nothing is wrong with the rows of a file, their ids differ.
use Rattle.std.proofs.Common.{◌≡◌, ◌≢◌, ℕ, ◌+◌, ◌<◌, List, [], ◌∷◌, ◌++◌, length, map, get_or, suc, zero, true, false, Option, None, Some, refl, ap, ◌∙◌, arith, append_assoc}
use Rattle.std.specs.List.{All, AllPairs}
use Rattle.std.specs.Str.{bytes_eq}
use Rattle.std.proofs.lemmas.Bool.{false_from_ne_true}
use Rattle.std.proofs.lemmas.List.{append-nil}
use Rattle.std.proofs.lemmas.List.Elements.{All-cons, All-head, All-nil, All-tail}
use Rattle.std.proofs.lemmas.List.Quantifiers.{all_pairs_push}
use Rattle.name_index.proofs.SightFacts.{first_sights-without}
use Rattle.name_index.proofs.TestFacts.{bytes_eq-refl, or-left, or-right, same_bytes}
use Rattle.otp_model.specs.Sights.{first_sights, has_name}
use Rattle.otp_model.specs.declared.feed_fault.FeedFault.{FeedFault}
use Rattle.otp_model.specs.declared.feed_fault.FeedFile.{FeedFile}
use Rattle.gtfs_links.specs.declared.check.wrong.Wrong.{Wrong}
use Rattle.gtfs_links.specs.Faults.{fault_or, first_of, first_wrong}
use Rattle.gtfs_links.specs.Rules.{is_repeated}

-- the parts of a feed without a fault
pub none_first : (a b : Option FeedFault) → first_of a b ≡ None → a ≡ None
none_first None b h = refl
none_first (Some fault) b h = cc h

pub none_later : (a b : Option FeedFault) → first_of a b ≡ None → b ≡ None
none_later None b h = h
none_later (Some fault) b h = cc h

pub none_row : (file : FeedFile) (row : ℕ) (wrong : Option Wrong) (later : Option FeedFault) → fault_or file row wrong later ≡ None → wrong ≡ None
none_row file row None later h = refl
none_row file row (Some wrong) later h = cc h

pub none_rest : (file : FeedFile) (row : ℕ) (wrong : Option Wrong) (later : Option FeedFault) → fault_or file row wrong later ≡ None → later ≡ None
none_rest file row None later h = h
none_rest file row (Some wrong) later h = cc h

-- what a rule says of each row and the rows before it holds of all pairs
pub rows_related : {R : Type 0} (Rel : R → R → Type 0) (file : FeedFile) (rule : List R → R → Option Wrong)
    (says : (before : List R) (row : R) → rule before row ≡ None → (k : ℕ) (d : R) → k < length before → Rel (get_or before k d) row)
    (before rows : List R) → AllPairs Rel before → first_wrong file rule before rows ≡ None → AllPairs Rel (before ++ rows)
unfolding first_wrong
rows_related Rel file rule says before [] related h = rw (append-nil before) related
rows_related {R} Rel file rule says before (row ∷ rows) related h =
    let fine : rule before row ≡ None = none_row file (length before + 1) (rule before row) (first_wrong file rule (before ++ row ∷ []) rows) h in
    let rest : first_wrong file rule (before ++ row ∷ []) rows ≡ None = none_rest file (length before + 1) (rule before row) (first_wrong file rule (before ++ row ∷ []) rows) h in
    let more : AllPairs Rel (before ++ row ∷ []) = all_pairs_push Rel before row related (says before row fine) in
    let all : AllPairs Rel ((before ++ row ∷ []) ++ rows) = rows_related Rel file rule says (before ++ row ∷ []) rows more rest in
    rw append_assoc at all

-- what the rule says of each row, where nothing is wrong
pub each_fine : {R : Type 0} (file : FeedFile) (rule : List R → R → Option Wrong) (Q : R → Type 0) (says : (before : List R) (row : R) → rule before row ≡ None → Q row)
    (before rows : List R) → first_wrong file rule before rows ≡ None → All Q rows
unfolding first_wrong
each_fine file rule Q says before [] h = All-nil Q
each_fine file rule Q says before (row ∷ rows) h =
    let fine = none_row file (length before + 1) (rule before row) (first_wrong file rule (before ++ row ∷ []) rows) h in
    let rest = none_rest file (length before + 1) (rule before row) (first_wrong file rule (before ++ row ∷ []) rows) h in
    All-cons Q row rows (says before row fine) (each_fine file rule Q says (before ++ row ∷ []) rows rest)

module _ {R : Type 0} (id_of : R → List ℕ) where
  abbrev pub AreApart : List R → Type 0
  AreApart rows = AllPairs (λ (a b : R). id_of a ≢ id_of b) rows

  -- an id that none of the rows has
  apart_from : (rows : List R) (id : List ℕ) → has_name (map id_of rows) id ≡ false → (k : ℕ) (d : R) → k < length rows → id_of (get_or rows k d) ≢ id
  apart_from [] id h k d l e = absurd (omega (arith, l))
  apart_from (row ∷ rows) id h zero d l e = let same : bytes_eq id (id_of row) ≡ true = rw e (bytes_eq-refl id) in cc (same, or-left (bytes_eq id (id_of row)) (has_name (map id_of rows) id) h)
  apart_from (row ∷ rows) id h (suc k) d l e = apart_from rows id (or-right (bytes_eq id (id_of row)) (has_name (map id_of rows) id) h) k d (omega (arith, l)) e

  pub rows_apart : (file : FeedFile) (rule : List R → R → Option Wrong) (clean : (before : List R) (row : R) → rule before row ≡ None → is_repeated id_of before row ≡ false)
      (before rows : List R) → AreApart before → first_wrong file rule before rows ≡ None → AreApart (before ++ rows)
  rows_apart file rule clean = rows_related (λ (a b : R). id_of a ≢ id_of b) file rule (λ before row fine. apart_from before (id_of row) (clean before row fine))

  pub none_has : (rows : List R) (id : List ℕ) → All (λ (row : R). id ≢ id_of row) rows → has_name (map id_of rows) id ≡ false
  none_has [] id h = refl
  none_has (row ∷ rows) id h =
      let differs : bytes_eq id (id_of row) ≡ false = false_from_ne_true (bytes_eq id (id_of row)) (λ t. All-head (λ (r : R). id ≢ id_of r) row rows h (same_bytes id (id_of row) t)) in
      rw differs (none_has rows id (All-tail (λ (r : R). id ≢ id_of r) row rows h))

  -- each of them is sighted once
  pub sighted_once : (rows : List R) → AreApart rows → first_sights (map id_of rows) ≡ map id_of rows
  unfolding first_sights
  sighted_once [] apart = refl
  sighted_once (row ∷ rows) apart =
      let rest : first_sights (map id_of rows) ≡ map id_of rows = sighted_once rows (λ i j d l m. apart (suc i) (suc j) d (omega (arith, l)) (omega (arith, m))) in
      let none : has_name (map id_of rows) (id_of row) ≡ false = none_has rows (id_of row) (λ k d l. apart zero (suc k) d (omega arith) (omega (arith, l))) in
      ap (λ (ids : List (List ℕ)). id_of row ∷ ids) (first_sights-without (id_of row) (map id_of rows) none ∙ rest)
