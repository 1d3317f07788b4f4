-- Tables, and where shapes have their places in them.
use Rattle.std.proofs.Common.{◌≡◌, ◌≢◌, inl, inr, ℕ, zero, suc, ◌+◌, ◌*◌, ◌≤◌, ◌<◌, List, [], ◌∷◌, ◌++◌, Some, length, take, drop, refl, sym, ap, subst, ◌∙◌, arith, slice_set, slice_index}
use Rattle.std.specs.List.{slice_get}
use Rattle.std.proofs.lemmas.Bool.{cases_lt}
use Rattle.std.proofs.lemmas.List.{get_or-drop, get_or-set_other, get_or-set_same, get_or-take, get_or_append_left, get_or_push, length-set, length_push}
use Rattle.std.proofs.Math.ListN.{drop_of_length-le}
use Rattle.std.proofs.lemmas.Nat.{mul-add-lt}
use Rattle.std.proofs.lemmas.Option.{same_Some}
use Rattle.trip_patterns.specs.Shapes.{ShapeOf}
use Rattle.end_bounds.specs.Levels.{AreLaid}
use Rattle.end_bounds.specs.Scans.{far, number_at}
use Rattle.end_bounds.specs.Tables.{AreOthersKept, IsColumn, IsWriting, row_of}

-- places of a table are apart where their columns are
apart : (columns row other column beside : ℕ) → column < columns → beside < columns → beside ≢ column → row * columns + beside ≢ other * columns + column
apart columns row other column beside a b ne same = elim (cases_lt row other) [
  | inl less ↦ absurd (omega (arith, mul-add-lt row columns beside other less b))
  | inr more ↦ elim (cases_lt other row) [
    | inl less ↦ absurd (omega (arith, mul-add-lt other columns column row less a))
    | inr upto ↦ (let here : row ≡ other = omega arith in let e : other * columns + beside ≡ other * columns + column = rw here at same in ne (omega (arith, e)))
  ]
]

module _ (columns column : ℕ) (numbers old : List ℕ) (fits : column < columns) where
  pub writing_begins : IsWriting columns column 0 numbers old old
  writing_begins = record { size = refl; written = λ row less. absurd (omega arith); kept = record { each = λ row other less ne. refl } }

  pub writing_more : (row number : ℕ) (table : List ℕ) → length old ≡ length numbers * columns → row < length numbers → number ≡ number_at numbers row → IsWriting columns column row numbers old table
      → IsWriting columns column (row + 1) numbers old (slice_set table (row * columns + column) number)
  writing_more row number table size less number_is s = record {
    size = length-set table (row * columns + column) number ∙ s.size;
    written = λ r upto. elim (cases_lt r row) [
      | inl before ↦ (let place = row * columns + column in
          let ne : r * columns + column ≢ place = λ e. omega (arith, mul-add-lt r columns column row before fits, e) in
          get_or-set_other table place (r * columns + column) number far ne ∙ s.written r before)
      | inr not_before ↦ (let same : r ≡ row = omega arith in rw same (get_or-set_same table (row * columns + column) number far inside ∙ number_is))
    ];
    kept = record {
      each = λ r other within ne.
          let kept = s.kept in
          get_or-set_other table (row * columns + column) (r * columns + other) number far (apart columns r row column other fits within ne) ∙ kept.each r other within ne;
    };
  }
    where
      inside : row * columns + column < length table
      inside = let same = s.size in omega (arith, mul-add-lt row columns column (length numbers) less fits)

-- a column that isn't the one that was written
pub column_kept : (columns column other : ℕ) (old new numbers : List ℕ) → other < columns → other ≢ column → AreOthersKept columns column old new → IsColumn columns old other numbers → IsColumn columns new other numbers
column_kept columns column other old new numbers less ne kept is = record { each = λ row. kept.each row other less ne ∙ is.each row }

-- what a row has in a column
pub row_number : (columns : ℕ) (table : List ℕ) (row column : ℕ) → column < columns → number_at (row_of columns table row) column ≡ number_at table (row * columns + column)
row_number columns table row column less = get_or-take columns (drop (row * columns) table) column far less ∙ get_or-drop (row * columns) table column far

-- ---- places

pub laid_none : (shapes : List ShapeOf) (places : ℕ) → AreLaid shapes 0 [] places
laid_none shapes places = record { count_is = refl; within = λ n shape less at. absurd (omega arith); rising = λ m n shape before less at. absurd (omega arith) }

pub laid_more : (shapes : List ShapeOf) (n : ℕ) (bases : List ℕ) (places next : ℕ) (shape : ShapeOf) → slice_get shapes n ≡ Some shape → next ≡ places + length shape.pattern
    → AreLaid shapes n bases places → AreLaid shapes (n + 1) (bases ++ places ∷ []) next
laid_more shapes n bases places next shape shape_is next_is laid =
    let count = laid.count_is in
    record {
      count_is = omega (arith, length_push bases places);
      within = λ m y less at. elim (cases_lt m n) [
        | inl before ↦ (let old = laid.within m y before at in let e = kept m (omega arith) in omega arith)
        | inr upto ↦ last m y (omega arith) at
      ];
      rising = λ m k y before less at. elim (cases_lt k n) [
        | inl inside ↦ (let old = laid.rising m k y before inside at in let e = kept m (omega arith) in let f = kept k (omega arith) in omega arith)
        | inr upto ↦ (let old = laid.within m y (omega arith) at in let e = kept m (omega arith) in let f = new k (omega arith) in omega arith)
      ];
    }
  where
    kept : (m : ℕ) → m < length bases → slice_index (bases ++ places ∷ []) m ≡ slice_index bases m
    kept m less = get_or_append_left bases (places ∷ []) 0 m less

    new : (m : ℕ) → length bases ≡ m → slice_index (bases ++ places ∷ []) m ≡ places
    new m same = get_or_push bases places 0 m same

    last : (m : ℕ) (y : ShapeOf) → m ≡ n → slice_get shapes m ≡ Some y → slice_index (bases ++ places ∷ []) m + length y.pattern ≤ next
    last m y same at =
        let count = laid.count_is in
        let e : shape ≡ y = same_Some shape y (sym shape_is ∙ rw same at at) in
        let most : places + length y.pattern ≤ next = subst (λ (z : ShapeOf). places + length z.pattern ≤ next) e (omega arith) in
        let here = new m (omega arith) in
        omega arith

-- there is no row past the end of a table
pub row_past : (columns : ℕ) (table : List ℕ) (row : ℕ) → length table ≤ row → row_of columns table row ≡ []
row_past zero table row past = refl
row_past (suc n) table row past = ap (take (suc n)) (drop_of_length-le table (wide row n (length table) past))
  where
    wide : (row n size : ℕ) → size ≤ row → size ≤ row * suc n
    wide row n size past = grind arith
