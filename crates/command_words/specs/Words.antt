-- The rules for the words behind a command's name. A word that begins with '-' names an option, and the next
-- word is its value; every other word is positional. Words are lists of bytes.
use Rattle.std.specs.Prelude.{ℕ, List, [], ◌∷◌, ◌++◌, Option, Some, None, Bool, false, not, ◌==◌, ◌&&◌, nat_le, if◌then◌else◌, codes, option_map, slice_get}
use Rattle.std.specs.List.{count_by, list_all, list_any}
use Rattle.std.specs.Str.{bytes_eq}

-- the options of every command, and the last three of `serve` alone
abbrev pub option_names : List (List ℕ)
option_names =
    codes "zone" ∷ codes "from" ∷ codes "days" ∷ codes "feeds" ∷ codes "speed" ∷ codes "reach" ∷ codes "scale"
    ∷ codes "port" ∷ codes "workers" ∷ codes "connections" ∷ []

-- the word that names an option
abbrev pub dashed : List ℕ → List ℕ
dashed name = codes "--" ++ name

abbrev pub is_option : List ℕ → Bool
is_option word = list_any (λ name. bytes_eq word (dashed name)) option_names

-- not empty, and not beginning with '-'
abbrev pub is_plain : List ℕ → Bool
is_plain [] = false
is_plain (first ∷ rest) = not (first == 45)

-- The positional words in their order, where each other word is an option with a plain word for its value
-- behind it; no list where one is not.
unfoldable pub positionals_of : List (List ℕ) → Option (List (List ℕ))
positionals_of [] = Some []
positionals_of (word ∷ []) = if is_plain word then Some (word ∷ []) else None
positionals_of (word ∷ next ∷ rest) =
    if is_plain word then option_map (λ xs. word ∷ xs) (positionals_of (next ∷ rest))
    else (if is_option word && is_plain next then positionals_of rest else None)

-- the option stands at most once
abbrev pub is_once : List (List ℕ) → List ℕ → Bool
is_once words name = nat_le (count_by (λ word. bytes_eq word (dashed name)) words) 1

-- so does each option
abbrev pub are_once : List (List ℕ) → Bool
are_once words = list_all (is_once words) option_names

-- the value of an option: the word behind the first that names it
unfoldable pub value_of : List ℕ → List (List ℕ) → Option (List ℕ)
value_of name [] = None
value_of name (word ∷ rest) = if bytes_eq word (dashed name) then slice_get rest 0 else value_of name rest

-- what stands behind the value of an option, of whose words the first names it
abbrev pub behind_option : List ℕ → List (List ℕ) → Option (List (List ℕ))
behind_option word [] = None
behind_option word (value ∷ rest) = if is_option word && is_plain value then Some rest else None
