-- The columns of rows, one behind the other.
use Rattle.std.proofs.Common.{◌≡◌, ℕ, zero, suc, ◌+◌, ◌*◌, ◌<◌, ◌≤◌, ℤ, List, [], ◌∷◌, ◌++◌, length, take, drop, Some, sym, ap, ◌∙◌, arith, suc-mul, zero-add, zero-mul}
use Rattle.std.specs.List.{flat_map, range_with_len, slice_get}
use Rattle.std.proofs.lemmas.List.{append-nil, drop-drop, drop_at, length-append, length-map, map-id, take_at}
use Rattle.std.proofs.lemmas.List.FromFn.{get_or-range_with_len, length-range_with_len, map-range_with_len_more}
use Rattle.std.proofs.lemmas.Nat.{mul-le, rows}
use Rattle.std.proofs.lemmas.Option.{none-some, same_Some, slice_get-get_or}
use Rattle.std.proofs.lemmas.List.Concat.{flat_map-append}
use Rattle.trip_patterns.specs.declared.row.Row.{Row}
use Rattle.trip_patterns.specs.Rows.{column, columns}

pub times_more : (n m : ℕ) → (n + 1) * m ≡ n * m + m
times_more n m = grind (arith, rows)

range_more : (n : ℕ) → range_with_len 0 (n + 1) ≡ range_with_len 0 n ++ n ∷ []
range_more n = sym (map-id (range_with_len 0 (n + 1))) ∙ map-range_with_len_more (λ (k : ℕ). k) 0 n n (omega arith) ∙ ap (λ (xs : List ℕ). xs ++ n ∷ []) (map-id (range_with_len 0 n))

pub columns_more : (rows : List Row) (n : ℕ) (before after : List ℤ) → before ≡ columns n rows → after ≡ before ++ column rows n → after ≡ columns (n + 1) rows
columns_more rows n before after is more =
    more ∙ ap (λ (xs : List ℤ). xs ++ column rows n) is
    ∙ sym (ap (flat_map (column rows)) (range_more n) ∙ flat_map-append (column rows) (range_with_len 0 n) (n ∷ [])
    ∙ ap (λ (xs : List ℤ). flat_map (column rows) (range_with_len 0 n) ++ xs) (append-nil (column rows n)))

-- the piece of one item in a list of pieces of one length
part_of : {X Y : Type 0} (f : X → List Y) (n : ℕ) (xs : List X) (k : ℕ) (x : X) → ((y : X) → length (f y) ≡ n) → slice_get xs k ≡ Some x
    → take n (drop (k * n) (flat_map f xs)) ≡ f x
part_of f n [] k x wide at = absurd (none-some x at)
part_of f n (y ∷ xs) zero x wide at =
    rw (zero-mul n) (take_at (f y) (flat_map f xs) n (wide y) ∙ ap f (same_Some y x at))
part_of f n (y ∷ xs) (suc k) x wide at =
    let more : suc k * n ≡ n + k * n = omega (arith, suc-mul k n) in
    rw (more, ← drop-drop (k * n) n (f y ++ flat_map f xs), drop_at (f y) (flat_map f xs) n (wide y)) (part_of f n xs k x wide at)

length_pieces : {X Y : Type 0} (f : X → List Y) (n : ℕ) (xs : List X) → ((y : X) → length (f y) ≡ n) → length (flat_map f xs) ≡ length xs * n
length_pieces f n [] wide = sym (zero-mul n)
length_pieces f n (y ∷ xs) wide = omega (arith, length-append (f y) (flat_map f xs), wide y, length_pieces f n xs wide, suc-mul (length xs) n)

-- the columns, one of which is as long as there are rows
pub columns_length : (stops : ℕ) (rows : List Row) → length (columns stops rows) ≡ stops * length rows
columns_length stops rows =
    length_pieces (column rows) (length rows) (range_with_len 0 stops) (λ p. length-map rows _) ∙ ap (λ (n : ℕ). n * length rows) (length-range_with_len 0 stops)

pub column_within : (stops : ℕ) (rows : List Row) (position : ℕ) → position < stops → position * length rows + length rows ≤ length (columns stops rows)
column_within stops rows position less =
    omega (arith, columns_length stops rows, times_more position (length rows), mul-le (position + 1) (length rows) stops (length rows) (omega arith) (omega arith))

pub column_part : (stops : ℕ) (rows : List Row) (position : ℕ) → position < stops
    → take (length rows) (drop (position * length rows) (columns stops rows)) ≡ column rows position
column_part stops rows position less =
    let at : slice_get (range_with_len 0 stops) position ≡ Some position
    = slice_get-get_or (range_with_len 0 stops) position 0 (omega (arith, length-range_with_len 0 stops))
    ∙ ap (λ (n : ℕ). Some n) (get_or-range_with_len 0 stops position 0 less ∙ zero-add position) in
    part_of (column rows) (length rows) (range_with_len 0 stops) position position (λ p. length-map rows _) at
