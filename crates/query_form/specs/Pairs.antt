-- The parameters of a query: its pairs are those of the form `application/x-www-form-urlencoded` (URL Standard,
-- section 5), and what isn't UTF-8 once it is decoded is replaced as the URL Standard says.
use Rattle.std.specs.Prelude.{ℕ, List, [], ◌∷◌, map, Option, Some, None, Result, Ok, Err, Bool}
use Rattle.std.specs.List.{filter}
use Rattle.std.specs.Str.{bytes_eq}
use Rattle.std.specs.Str.Lossy.{utf8_lossy}
use Rattle.form_urlencoded.specs.Form.{decode, raw_pairs}
use Rattle.query_form.specs.declared.pairs.Pair.{Pair}
use Rattle.query_form.specs.declared.fault.QueryFault.{QueryFault}
use Rattle.query_form.specs.declared.fault.QueryFault.TheVariants as fault

-- the text that a name or a value stands for
abbrev pub text_of : List ℕ → List ℕ
text_of bytes = utf8_lossy (decode bytes)

abbrev pub pair_of : List ℕ × List ℕ → Pair
pair_of pair = record { name = text_of pair.0; value = text_of pair.1 }

-- the pairs of a query, in order
abbrev pub pairs_of : List ℕ → List Pair
pairs_of query = map pair_of (raw_pairs query)

abbrev pub is_named : List ℕ → Pair → Bool
is_named name pair = bytes_eq pair.name name

-- the values that stand under a name
abbrev pub values_named : List ℕ → List Pair → List (List ℕ)
values_named name pairs = map (λ pair. pair.value) (filter (is_named name) pairs)

-- the value of a parameter, which stands once or not at all
abbrev pub single : List (List ℕ) → Result (Option (List ℕ)) QueryFault
single [] = Ok None
single (value ∷ []) = Ok (Some value)
single (value ∷ other ∷ values) = Err fault.Twice

abbrev pub value_of : List Pair → List ℕ → Result (Option (List ℕ)) QueryFault
value_of pairs name = single (values_named name pairs)
