-- The header lines of a head, one after the other.
use Rattle.std.proofs.Common.{◌≡◌, ℕ, ◌+◌, ◌<◌, Bool, true, false, cond, List, [], ◌∷◌, length, map, drop, get_or, Option, Some, None, sym, ap, refl, subst, ◌∙◌}
use Rattle.std.specs.Option.{is_some, unwrap_or}
use Rattle.std.specs.Str.Parse.{digits_value}
use Rattle.std.proofs.lemmas.Bool.{false≢true}
use Rattle.std.proofs.lemmas.List.{at_drop_more}
use Rattle.otp_base.specs.Number.{number_of}
use Rattle.httparse.specs.declared.spans.HeaderSpan.{HeaderSpan}
use Rattle.http_read.specs.Fields.{Line, is_named, values_of, is_number, IsBadLength}

-- what was found among the lines so far, of the values that all lines have, and these that are left
abbrev pub SoFar : Option ℕ → List (List ℕ) → List (List ℕ) → Type 0
SoFar None all rest = all ≡ rest
SoFar (Some n) all rest = (value : List ℕ) × (all ≡ value ∷ rest) × (is_number value ≡ true) × (n ≡ digits_value 10 value)

-- the values from a line on that has another name
pub values_next : (name : List ℕ) (f : HeaderSpan → Line) (lines : List HeaderSpan) (i : ℕ) (d : HeaderSpan) → i < length lines → is_named name (f (get_or lines i d)) ≡ false → values_of name (map f (drop i lines)) ≡ values_of name (map f (drop (i + 1) lines))
values_next name f lines i d within other =
    at_drop_more (λ z. values_of name (map f z)) lines i d within
    ∙ ap (λ v. cond v ((f (get_or lines i d)).1 ∷ values_of name (map f (drop (i + 1) lines))) (values_of name (map f (drop (i + 1) lines)))) other

-- and from one that has the name
pub values_here : (name : List ℕ) (f : HeaderSpan → Line) (lines : List HeaderSpan) (i : ℕ) (d : HeaderSpan) → i < length lines → is_named name (f (get_or lines i d)) ≡ true → values_of name (map f (drop i lines)) ≡ (f (get_or lines i d)).1 ∷ values_of name (map f (drop (i + 1) lines))
values_here name f lines i d within named =
    at_drop_more (λ z. values_of name (map f z)) lines i d within
    ∙ ap (λ v. cond v ((f (get_or lines i d)).1 ∷ values_of name (map f (drop (i + 1) lines))) (values_of name (map f (drop (i + 1) lines)))) named

-- a first value that is no number
bad_first : (value : List ℕ) (rest : List (List ℕ)) → is_number value ≡ false → IsBadLength (value ∷ rest)
bad_first value [] e = e
bad_first value (other ∷ rest) e = tt

-- what a value that was read as a number is
pub is_number_some : (value : List ℕ) (n : ℕ) → Some n ≡ number_of value → (is_number value ≡ true) × (n ≡ digits_value 10 value)
unfolding is_number
is_number_some value n = by_test (is_number value) refl
  where
    by_test : (v : Bool) → is_number value ≡ v → Some n ≡ cond v (Some (digits_value 10 value)) None → (is_number value ≡ true) × (n ≡ digits_value 10 value)
    by_test true e read = (e, ap (λ o. unwrap_or o 0) read)
    by_test false e read = absurd (false≢true (ap is_some (sym read)))

-- and one that was not
pub is_number_none : (value : List ℕ) → None ≡ number_of value → is_number value ≡ false
unfolding is_number
is_number_none value = by_test (is_number value) refl
  where
    by_test : (v : Bool) → is_number value ≡ v → None ≡ cond v (Some (digits_value 10 value)) None → is_number value ≡ false
    by_test true e read = absurd (false≢true (ap is_some read))
    by_test false e read = e

-- a line of another name
pub so_far_next : (name : List ℕ) (f : HeaderSpan → Line) (lines : List HeaderSpan) (i : ℕ) (d : HeaderSpan) (found : Option ℕ) (all : List (List ℕ)) → i < length lines → is_named name (f (get_or lines i d)) ≡ false → SoFar found all (values_of name (map f (drop i lines))) → SoFar found all (values_of name (map f (drop (i + 1) lines)))
so_far_next name f lines i d found all within other s = subst (λ rest. SoFar found all rest) (values_next name f lines i d within other) s

-- a second line of the name
pub so_far_second : (name : List ℕ) (f : HeaderSpan → Line) (lines : List HeaderSpan) (i : ℕ) (d : HeaderSpan) (found : Option ℕ) (all : List (List ℕ)) → i < length lines → is_named name (f (get_or lines i d)) ≡ true → is_some found ≡ true → SoFar found all (values_of name (map f (drop i lines))) → IsBadLength all
so_far_second name f lines i d None all within named some s = absurd (false≢true some)
so_far_second name f lines i d (Some n) all within named some s =
    let t = subst (λ rest. SoFar (Some n) all rest) (values_here name f lines i d within named) s in
    subst IsBadLength (sym t.1) tt

-- a first line of the name, whose value is no number
pub so_far_bad : (name : List ℕ) (f : HeaderSpan → Line) (lines : List HeaderSpan) (i : ℕ) (d : HeaderSpan) (found : Option ℕ) (all : List (List ℕ)) → i < length lines → is_named name (f (get_or lines i d)) ≡ true → is_some found ≡ false → is_number (f (get_or lines i d)).1 ≡ false → SoFar found all (values_of name (map f (drop i lines))) → IsBadLength all
so_far_bad name f lines i d None all within named none bad s =
    subst IsBadLength (sym (s ∙ values_here name f lines i d within named)) (bad_first (f (get_or lines i d)).1 (values_of name (map f (drop (i + 1) lines))) bad)
so_far_bad name f lines i d (Some n) all within named none bad s = absurd (false≢true (sym none))

-- and one whose value is one
pub so_far_first : (name : List ℕ) (f : HeaderSpan → Line) (lines : List HeaderSpan) (i : ℕ) (d : HeaderSpan) (found : Option ℕ) (all : List (List ℕ)) (n : ℕ) → i < length lines → is_named name (f (get_or lines i d)) ≡ true → is_some found ≡ false → Some n ≡ number_of (f (get_or lines i d)).1 → SoFar found all (values_of name (map f (drop i lines))) → SoFar (Some n) all (values_of name (map f (drop (i + 1) lines)))
so_far_first name f lines i d None all n within named none read s =
    let value = (f (get_or lines i d)).1 in
    let number = is_number_some value n read in
    (value, s ∙ values_here name f lines i d within named, number.0, number.1)
so_far_first name f lines i d (Some m) all n within named none read s = absurd (false≢true (sym none))
