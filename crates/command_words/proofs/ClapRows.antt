-- What a use of an argument makes of the rows of a parse.
use Rattle.std.proofs.Common.{◌≡◌, ◌++◌, Bool, true, false, List, [], ◌∷◌, refl, ap}
use Rattle.std.specs.Prelude.{unwrap_or}
use Rattle.std.specs.Str.{bytes_eq}
use Rattle.std.proofs.lemmas.Slice.Eq.{bytes_eq-Decides}
use Rattle.clap.specs.Walk.{Row, Text, all_of, has_row, with_values, without}
use Rattle.clap.specs.declared.builder.value_parser.Reading.{Reading}
use Rattle.clap.specs.declared.parser.matches.ValueSource.{ValueSource}

-- the values of an argument
abbrev pub texts_at : Text → List Row → List Text
texts_at id rows = unwrap_or (all_of id rows) []

pub none-texts : (id : Text) (rows : List Row) → has_row id rows ≡ false → texts_at id rows ≡ []
none-texts id [] h = refl
none-texts id (r ∷ rs) h = go (bytes_eq r.id id) refl (λ n. none-texts id rs n)
  where
    go : (b : Bool) → bytes_eq r.id id ≡ b → (has_row id rs ≡ false → texts_at id rs ≡ []) → texts_at id (r ∷ rs) ≡ []
    go true e further = let no : true ≡ false = rw e at h in cc
    go false e further = rw e (further (rw e at h))

pub without-none : (id : Text) (rows : List Row) → has_row id rows ≡ false → without id rows ≡ rows
without-none id [] h = refl
without-none id (r ∷ rs) h = go (bytes_eq r.id id) refl (λ n. without-none id rs n)
  where
    go : (b : Bool) → bytes_eq r.id id ≡ b → (has_row id rs ≡ false → without id rs ≡ rs) → without id (r ∷ rs) ≡ r ∷ rs
    go true e further = let no : true ≡ false = rw e at h in cc
    go false e further = rw e (ap (λ xs. r ∷ xs) (further (rw e at h)))

pub with-same : (id : Text) (how : Reading) (s : ValueSource) (values : List Text) (rows : List Row) → bytes_eq id id ≡ true
    → texts_at id (with_values id how s values rows) ≡ texts_at id rows ++ values
with-same id how s values [] same = rw same refl
with-same id how s values (r ∷ rs) same = go (bytes_eq r.id id) refl (with-same id how s values rs same)
  where
    go : (b : Bool) → bytes_eq r.id id ≡ b → texts_at id (with_values id how s values rs) ≡ texts_at id rs ++ values → texts_at id (with_values id how s values (r ∷ rs)) ≡ texts_at id (r ∷ rs) ++ values
    go true e further = rw e (rw e refl)
    go false e further = rw e (rw e further)

skips : (used id found : Text) → bytes_eq used id ≡ false → bytes_eq found used ≡ true → bytes_eq found id ≡ false
skips used id found other e =
    let is : found ≡ used = (bytes_eq-Decides found used).0 e in
    rw is other

pub with-other : (used id : Text) (how : Reading) (s : ValueSource) (values : List Text) (rows : List Row) → bytes_eq used id ≡ false
    → texts_at id (with_values used how s values rows) ≡ texts_at id rows
with-other used id how s values [] other = rw other refl
with-other used id how s values (r ∷ rs) other = go (bytes_eq r.id used) refl (bytes_eq r.id id) refl (with-other used id how s values rs other)
  where
    go : (a : Bool) → bytes_eq r.id used ≡ a → (b : Bool) → bytes_eq r.id id ≡ b → texts_at id (with_values used how s values rs) ≡ texts_at id rs
        → texts_at id (with_values used how s values (r ∷ rs)) ≡ texts_at id (r ∷ rs)
    go true e b f further = let n = skips used id r.id other e in rw (e, n) refl
    go false e true f further = rw (e, f) refl
    go false e false f further = rw (e, f) further

pub has-other : (used id : Text) (how : Reading) (s : ValueSource) (values : List Text) (rows : List Row) → bytes_eq used id ≡ false
    → has_row id (with_values used how s values rows) ≡ has_row id rows
has-other used id how s values [] other = rw other refl
has-other used id how s values (r ∷ rs) other = go (bytes_eq r.id used) refl (bytes_eq r.id id) refl (has-other used id how s values rs other)
  where
    go : (a : Bool) → bytes_eq r.id used ≡ a → (b : Bool) → bytes_eq r.id id ≡ b → has_row id (with_values used how s values rs) ≡ has_row id rs
        → has_row id (with_values used how s values (r ∷ rs)) ≡ has_row id (r ∷ rs)
    go true e b f further = let n = skips used id r.id other e in rw (e, n) refl
    go false e true f further = rw (e, f) refl
    go false e false f further = rw (e, f) further
