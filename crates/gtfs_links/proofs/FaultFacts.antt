-- The first fault of a file, as a loop over its rows finds it.
use Rattle.std.proofs.Common.{◌≡◌, ℕ, ◌+◌, ◌<◌, ◌≤◌, List, [], ◌∷◌, ◌++◌, length, take, drop, Option, Some, None, inl, inr, refl, sym, ap, ◌∙◌, arith}
use Rattle.std.specs.Prelude.{slice_get}
use Rattle.std.proofs.lemmas.Bool.{cases_lt}
use Rattle.std.proofs.lemmas.List.{drop_more, drop_all, take_more, length-take-le}
use Rattle.std.proofs.lemmas.Option.{get_or_from_slice_get, slice_get_cases}
use Rattle.otp_model.specs.FeedFaults.{IsFault}
use Rattle.otp_model.specs.declared.feed_fault.FeedFault.{FeedFault}
use Rattle.otp_model.specs.declared.feed_fault.FeedFault.TheVariants as feed
use Rattle.otp_model.specs.declared.feed_fault.FeedFile.{FeedFile}
use Rattle.gtfs_links.specs.declared.check.wrong.Wrong.{Wrong}
use Rattle.gtfs_links.specs.Faults.{AreFineBefore, FindsAs, Judges, fault_of_row, fault_or, first_of, first_wrong}

-- the fault that was made is the one that is found
pub finds_fault : (made fault : FeedFault) (found : Option FeedFault) → IsFault made fault → found ≡ Some fault → FindsAs made found
finds_fault (feed.At c f r column) fault found e h = h ∙ ap Some e
finds_fault feed.Read fault found e h = e
finds_fault feed.Memory fault found e h = tt

-- a row that is there
pub row_at : {R : Type 0} (rows : List R) (i : ℕ) → i < length rows → (row : R) × (slice_get rows i ≡ Some row)
row_at rows i l = elim (slice_get_cases rows i).1 [ inl inside ↦ (inside.0, inside.2) | inr past ↦ absurd (omega (arith, l, past.0)) ]

pub take_next : {R : Type 0} (rows : List R) (i : ℕ) (row : R) → i < length rows → slice_get rows i ≡ Some row → take (i + 1) rows ≡ take i rows ++ row ∷ []
take_next rows i row l e = rw (get_or_from_slice_get rows i row row e) at (take_more rows i row l)

pub drop_next : {R : Type 0} (rows : List R) (i : ℕ) (row : R) → i < length rows → slice_get rows i ≡ Some row → drop i rows ≡ row ∷ drop (i + 1) rows
drop_next rows i row l e = rw (get_or_from_slice_get rows i row row e) at (drop_more rows i row l)

module _ {R : Type 0} (file : FeedFile) (rule : List R → R → Option Wrong) (rows : List R) where
  -- what is found from a row on
  abbrev pub found_from : ℕ → Option FeedFault
  found_from i = first_wrong file rule (take i rows) (drop i rows)

  -- the row, and the rows after it
  found_at : (i : ℕ) (row : R) → i < length rows → slice_get rows i ≡ Some row → found_from i ≡ fault_or file (i + 1) (rule (take i rows) row) (found_from (i + 1))
  unfolding first_wrong
  found_at i row l e =
      let count : length (take i rows) ≡ i = length-take-le i rows (omega arith) in
      rw (drop_next rows i row l e, take_next rows i row l e) (rw count refl)

  -- nothing was wrong with a row that was passed
  pub fine_next : (i : ℕ) → i < length rows → AreFineBefore rule rows i → Judges rule rows i None → AreFineBefore rule rows (i + 1)
  fine_next i l fine judged k row less at = elim (cases_lt k i) [
    | inl before ↦ fine k row before at
    | inr later ↦
        let same : k ≡ i = omega (arith, less, later) in
        rw same (sym (judged fine row (rw same at at)))
  ]

  -- the loop goes on past a row with which nothing is wrong
  pub goes_on : (i : ℕ) (found : Option FeedFault) → i < length rows → AreFineBefore rule rows i → Judges rule rows i None → found_from i ≡ found → found_from (i + 1) ≡ found
  goes_on i found l fine judged h =
      let row = row_at rows i l in
      let none : rule (take i rows) row.0 ≡ None = sym (judged fine row.0 row.1) in
      let at : found_from i ≡ found_from (i + 1) = found_at i row.0 l row.1 ∙ rw none refl in
      sym at ∙ h

  -- it ends at the first row with which something is
  pub stops_at : (i : ℕ) (found : Option FeedFault) (wrong : Wrong) (made : FeedFault) → i < length rows → AreFineBefore rule rows i → Judges rule rows i (Some wrong)
      → IsFault made (fault_of_row file (i + 1) wrong) → found_from i ≡ found → FindsAs made found
  stops_at i found wrong made l fine judged fault h =
      let row = row_at rows i l in
      let some : rule (take i rows) row.0 ≡ Some wrong = sym (judged fine row.0 row.1) in
      let at : found_from i ≡ Some (fault_of_row file (i + 1) wrong) = found_at i row.0 l row.1 ∙ rw some refl in
      finds_fault made (fault_of_row file (i + 1) wrong) found fault (sym h ∙ at)

  -- or it comes past the last row
  pub ends : (i : ℕ) (found : Option FeedFault) → length rows ≤ i → found_from i ≡ found → found ≡ None
  unfolding first_wrong
  ends i found l h = let at : found_from i ≡ None = rw (drop_all i rows l) refl in sym h ∙ at

pub finds_first : (e : FeedFault) (found later : Option FeedFault) → FindsAs e found → FindsAs e (first_of found later)
finds_first (feed.At c f r column) found later h = rw h refl
finds_first feed.Read found later h = h
finds_first feed.Memory found later h = tt
