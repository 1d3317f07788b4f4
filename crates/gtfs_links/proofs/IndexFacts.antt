-- An index of a file's ids, row by row: an id is placed before its row's number exactly where an earlier row
-- has it.
use Rattle.std.proofs.Common.{◌≡◌, ℕ, suc, zero, Option, None, Some, add-one, subst, ◌+◌, ◌<◌, ◌≤◌, List, [], ◌∷◌, ◌++◌, length, map, Bool, true, false, cond, ◌||◌, get_or, take, drop, refl, sym, ap, ◌∙◌, arith, append_assoc}
use Rattle.std.specs.Prelude.{nat_lt, slice_get}
use Rattle.std.proofs.lemmas.Bool.{lt-ltb, le-ltb}
use Rattle.std.proofs.lemmas.List.{append-nil, drop_all, drop_more, length-map, length-take-le, map_more}
use Rattle.std.proofs.lemmas.Option.{get_or_from_slice_get}
use Rattle.std.specs.Str.{bytes_eq}
use Rattle.name_index.proofs.SightFacts.{noted_all, place-below, starts_noting}
use Rattle.name_index.proofs.TestFacts.{bytes_eq-refl}
use Rattle.otp_model.specs.Sights.{first_sights, has_name, noted, place_of}
use Rattle.gtfs_links.specs.declared.check.wrong.Wrong.{Wrong}
use Rattle.gtfs_links.specs.Faults.{AreFineBefore}
use Rattle.gtfs_links.specs.Index.{IsIndexOf}
use Rattle.gtfs_links.specs.Rules.{is_repeated}
use Rattle.gtfs_links.proofs.FaultFacts.{row_at}

pub place-append_has : (names more : List (List ℕ)) (name : List ℕ) → has_name names name ≡ true → place_of (names ++ more) name ≡ place_of names name
unfolding place_of
place-append_has [] more name h = cc h
place-append_has (other ∷ names) more name h = by (bytes_eq name other) (place-append_has names more name) h
  where
    by : (b : Bool) → (has_name names name ≡ true → place_of (names ++ more) name ≡ place_of names name) → (b || has_name names name) ≡ true
        → cond b 0 (place_of (names ++ more) name + 1) ≡ cond b 0 (place_of names name + 1)
    by true go t = refl
    by false go t = ap (λ (n : ℕ). n + 1) (go t)

pub place-append_new : (names more : List (List ℕ)) (name : List ℕ) → has_name names name ≡ false → place_of (names ++ name ∷ more) name ≡ length names
unfolding place_of
place-append_new [] more name h = rw (bytes_eq-refl name) refl
place-append_new (other ∷ names) more name h = by (bytes_eq name other) (place-append_new names more name) h
  where
    by : (b : Bool) → (has_name names name ≡ false → place_of (names ++ name ∷ more) name ≡ length names) → (b || has_name names name) ≡ false
        → cond b 0 (place_of (names ++ name ∷ more) name + 1) ≡ length (other ∷ names)
    by true go t = cc t
    by false go t = omega (arith, go t)

-- these names were noted from the ids that were seen and those that are left
pub record IsNotedFrom (names seen left : List (List ℕ)) : Type 0 where
  pub more : List (List ℕ)
  pub so_far : noted_all seen (left ++ more) ≡ names

pub noted_at_start : (ids names : List (List ℕ)) → IsIndexOf ids names → IsNotedFrom names [] ids
noted_at_start ids names h = record { more = h.more; so_far = starts_noting (ids ++ h.more) ∙ sym h.names_are }

-- the names that were seen stay in front
noted_front : (seen names : List (List ℕ)) → (tail : List (List ℕ)) × (noted_all seen names ≡ seen ++ tail)
unfolding noted_all
noted_front seen [] = ([], sym (append-nil seen))
noted_front seen (name ∷ names) = by (has_name seen name) (noted_front seen names) (noted_front (seen ++ name ∷ []) names)
  where
    by : (b : Bool) → (tail : List (List ℕ)) × (noted_all seen names ≡ seen ++ tail) → (tail : List (List ℕ)) × (noted_all (seen ++ name ∷ []) names ≡ (seen ++ name ∷ []) ++ tail)
        → (tail : List (List ℕ)) × (noted_all (cond b seen (seen ++ name ∷ [])) names ≡ seen ++ tail)
    by true old new = old
    by false old new = (name ∷ new.0, new.1 ∙ append_assoc seen (name ∷ []) new.0)

-- the next name is noted
noted_next : (names seen left : List (List ℕ)) (id : List ℕ) (h : IsNotedFrom names seen (id ∷ left)) → noted_all (cond (has_name seen id) seen (seen ++ id ∷ [])) (left ++ h.more) ≡ names
unfolding noted_all
noted_next names seen left id h = h.so_far

-- an id is placed before the number of its row where it was seen
pub placed_before : (names seen left : List (List ℕ)) (id : List ℕ) → IsNotedFrom names seen (id ∷ left) → nat_lt (place_of names id) (length seen) ≡ has_name seen id
placed_before names seen left id h = by (has_name seen id) refl (noted_next names seen left id h)
  where
    by : (b : Bool) → has_name seen id ≡ b → noted_all (cond b seen (seen ++ id ∷ [])) (left ++ h.more) ≡ names → nat_lt (place_of names id) (length seen) ≡ b
    by true e next =
        let front = noted_front seen (left ++ h.more) in
        let same : names ≡ seen ++ front.0 = sym next ∙ front.1 in
        let at : place_of names id ≡ place_of seen id = rw same (place-append_has seen front.0 id e) in
        lt-ltb (place_of names id) (length seen) (omega (arith, at, place-below seen id e))
    by false e next =
        let front = noted_front (seen ++ id ∷ []) (left ++ h.more) in
        let same : names ≡ seen ++ (id ∷ front.0) = sym next ∙ (front.1 ∙ append_assoc seen (id ∷ []) front.0) in
        let at : place_of names id ≡ length seen = rw same (place-append_new seen front.0 id e) in
        le-ltb (place_of names id) (length seen) (omega (arith, at))

pub noted_more : (names seen left : List (List ℕ)) (id : List ℕ) → IsNotedFrom names seen (id ∷ left) → has_name seen id ≡ false → IsNotedFrom names (seen ++ id ∷ []) left
noted_more names seen left id h e = let next = noted_next names seen left id h in record { more = h.more; so_far = rw e at next }

-- the same of rows, at a row's number
module _ {R : Type 0} (id_of : R → List ℕ) (names : List (List ℕ)) (rows : List R) where
  abbrev pub IsNotedAt : ℕ → Type 0
  IsNotedAt i = IsNotedFrom names (map id_of (take i rows)) (map id_of (drop i rows))

  at_row : (i : ℕ) (row : R) → i < length rows → row ≡ get_or rows i row → IsNotedAt i → IsNotedFrom names (map id_of (take i rows)) (id_of row ∷ map id_of (drop (i + 1) rows))
  at_row i row l e h = let cut : drop i rows ≡ row ∷ drop (i + 1) rows = rw (← e) at (drop_more rows i row l) in rw cut at h

  pub row_repeats : (i : ℕ) (row : R) → i < length rows → row ≡ get_or rows i row → IsNotedAt i
      → nat_lt (place_of names (id_of row)) i ≡ has_name (map id_of (take i rows)) (id_of row)
  row_repeats i row l e h =
      let count : length (map id_of (take i rows)) ≡ i = length-map (take i rows) id_of ∙ length-take-le i rows (omega arith) in
      let at = placed_before names (map id_of (take i rows)) (map id_of (drop (i + 1) rows)) (id_of row) (at_row i row l e h) in
      rw count at at

  pub row_noted : (i : ℕ) (row : R) → i < length rows → row ≡ get_or rows i row → IsNotedAt i → has_name (map id_of (take i rows)) (id_of row) ≡ false → IsNotedAt (i + 1)
  row_noted i row l e h new =
      let more : map id_of (take (i + 1) rows) ≡ map id_of (take i rows) ++ id_of row ∷ [] = rw (← e) at (map_more id_of rows i row l) in
      rw more (noted_more names (map id_of (take i rows)) (map id_of (drop (i + 1) rows)) (id_of row) (at_row i row l e h) new)

  module _ (rule : List R → R → Option Wrong) (clean : (before : List R) (row : R) → rule before row ≡ None → is_repeated id_of before row ≡ false) (index : IsIndexOf (map id_of rows) names) where
    -- where nothing is wrong with the rows before, the names were noted from those
    noted_before : (i : ℕ) → i ≤ length rows → AreFineBefore rule rows i → IsNotedAt i
    noted_before zero l fine = noted_at_start (map id_of rows) names index
    noted_before (suc i) l fine =
        let less : i < length rows = omega (arith, l) in
        let row = row_at rows i less in
        let so_far : IsNotedAt i = noted_before i (omega (arith, l)) (λ k other before at. fine k other (omega (arith, before)) at) in
        let new : is_repeated id_of (take i rows) row.0 ≡ false = clean (take i rows) row.0 (fine i row.0 (omega arith) row.1) in
        subst IsNotedAt (add-one i) (row_noted i row.0 less (sym (get_or_from_slice_get rows i row.0 row.0 row.1)) so_far new)

    -- then the place of a row's id is before it exactly where the id repeats
    pub id_repeats : (i : ℕ) (row : R) → i < length rows → slice_get rows i ≡ Some row → AreFineBefore rule rows i → nat_lt (place_of names (id_of row)) i ≡ is_repeated id_of (take i rows) row
    id_repeats i row l at fine = row_repeats i row l (sym (get_or_from_slice_get rows i row row at)) (noted_before i (omega (arith, l)) fine)

module _ {R : Type 0} (id_of : R → List ℕ) (rows : List R) where
  -- noting a file's ids row by row
  pub noted_row : (i : ℕ) (row : R) (before now total : List (List ℕ)) → i < length rows → row ≡ get_or rows i row → now ≡ noted before (id_of row)
      → noted_all before (map id_of (drop i rows)) ≡ total → noted_all now (map id_of (drop (i + 1) rows)) ≡ total
  unfolding noted_all
  noted_row i row before now total l e n h =
      let cut : drop i rows ≡ row ∷ drop (i + 1) rows = rw (← e) at (drop_more rows i row l) in
      rw n (rw cut at h)

noted_all-append : (seen ids more : List (List ℕ)) → noted_all seen (ids ++ more) ≡ noted_all (noted_all seen ids) more
unfolding noted_all
noted_all-append seen [] more = refl
noted_all-append seen (id ∷ ids) more = noted_all-append (noted seen id) ids more

-- after the last row the ids are in the index, behind those that were there
pub noted_all_rows : {R : Type 0} (id_of : R → List ℕ) (rows : List R) (i : ℕ) (old now : List (List ℕ)) → length rows ≤ i
    → noted_all now (map id_of (drop i rows)) ≡ noted_all old (map id_of rows) → (before : List (List ℕ)) → old ≡ first_sights before → now ≡ first_sights (before ++ map id_of rows)
unfolding noted_all
noted_all_rows id_of rows i old now l h before e =
    let done : now ≡ noted_all old (map id_of rows) = rw (drop_all i rows l) at h in
    let start : noted_all [] before ≡ old = starts_noting before ∙ sym e in
    done ∙ rw (← start) (sym (noted_all-append [] before (map id_of rows)) ∙ starts_noting (before ++ map id_of rows))
