-- What a query with a cursor added asks for.
use Rattle.std.proofs.Common.{◌≡◌, ◌∙◌, ℕ, true, false, List, [], ◌∷◌, ◌++◌, map, Option, Some, None, Result, Ok, Err, refl, ap, codes}
use Rattle.std.specs.Prelude.{filter}
use Rattle.std.proofs.lemmas.List.{map-append, append-nil}
use Rattle.std.proofs.lemmas.List.Elements.{filter-append}
use Rattle.otp_base.specs.Results.{◌>>=◌}
use Rattle.otp_model.specs.declared.journey.Cursor.{Cursor}
use Rattle.otp_model.specs.declared.journey.Request.{Request}
use Rattle.otp_model.specs.declared.timetable.Stop.{Stop}
use Rattle.otp_model.specs.Laws.{from_cursor}
use Rattle.paging.specs.Text.{cursor_of, cursor_text_of}
use Rattle.paging.proofs.CursorFacts.{reads_back}
use Rattle.query_form.specs.declared.fault.QueryFault.{QueryFault}
use Rattle.query_form.specs.declared.pairs.Pair.{Pair}
use Rattle.query_form.specs.declared.parameter.Parameter.{Parameter}
use Rattle.query_form.specs.declared.parameter.Parameter.TheVariants as parameter
use Rattle.query_form.specs.declared.parameter.Refusal.{Refusal}
use Rattle.query_form.specs.Laws.{NextLeadsOn}
use Rattle.query_form.specs.Pairs.{is_named, pairs_of, single, value_of, values_named}
use Rattle.query_form.specs.Query.{cursor_at, cursor_from, name_of, number_at, number_from, place_at, place_from, read_one, request_in, under}
use Rattle.query_form.proofs.AddedFacts.{pairs_of-added}
use Rattle.query_form.proofs.CursorFacts.{kept, kept_text, letters}

-- ---- steps of a reading

record Stepped {A B E : Type 0} (x : Result A E) (f : A → Result B E) (b : B) : Type 0 where
  from : A
  was : x ≡ Ok from
  gives : f from ≡ Ok b

stepped : {A B E : Type 0} (x : Result A E) (f : A → Result B E) (b : B) → (x >>= f) ≡ Ok b → Stepped x f b
stepped (Ok a) f b h = record { from = a; was = refl; gives = h }
stepped (Err e) f b h = cc h

step : {A B E : Type 0} (x : Result A E) (f : A → Result B E) (a : A) (r : Result B E) → x ≡ Ok a → f a ≡ r → (x >>= f) ≡ r
step x f a r e h = ap (λ z. z >>= f) e ∙ h

-- a step that is kept, before others
kept_step : {A B E : Type 0} (x y : Result A E) (f g : A → Result B E) (b c : B) → (x >>= f) ≡ Ok b → y ≡ x → ((a : A) → f a ≡ Ok b → g a ≡ Ok c) → (y >>= g) ≡ Ok c
kept_step (Ok a) y f g b c h same others = step y g a (Ok c) same (others a h)
kept_step (Err e) y f g b c h same others = cc h

-- one that gives something else
changed_step : {A B E : Type 0} (x y : Result A E) (f g : A → Result B E) (b c : B) (was now : A) → (x >>= f) ≡ Ok b → ((a : A) → f a ≡ Ok b → a ≡ was) → (x ≡ Ok was → y ≡ Ok now)
    → (f was ≡ Ok b → g now ≡ Ok c) → (y >>= g) ≡ Ok c
changed_step (Ok a) y f g b c was now h is change others =
    let e : a ≡ was = is a h in
    step y g now (Ok c) (change (ap Ok e)) (others (rw e at h))
changed_step (Err e) y f g b c was now h is change others = cc h

abbrev request_or : Request → Result Request Refusal → Request
request_or other (Ok r) = r
request_or other (Err refusal) = other

-- ---- pairs with one more at the end

abbrev cursor_pair : List ℕ → Pair
cursor_pair text = record { name = codes "cursor"; value = text }

values_named-added : (name : List ℕ) (pairs : List Pair) (pair : Pair) → values_named name (pairs ++ pair ∷ []) ≡ values_named name pairs ++ values_named name (pair ∷ [])
values_named-added name pairs pair =
    ap (map (λ (p : Pair). p.value)) (filter-append (is_named name) pairs (pair ∷ [])) ∙ map-append (λ (p : Pair). p.value) (filter (is_named name) pairs) (filter (is_named name) (pair ∷ []))

-- a pair of another name changes nothing
value_of-other : (name : List ℕ) (pairs : List Pair) (pair : Pair) → is_named name pair ≡ false → value_of (pairs ++ pair ∷ []) name ≡ value_of pairs name
value_of-other name pairs pair other =
    let none : values_named name (pair ∷ []) ≡ [] = rw other refl in
    ap single (values_named-added name pairs pair ∙ ap (λ more. values_named name pairs ++ more) none ∙ append-nil (values_named name pairs))

was_none : (values : List (List ℕ)) → single values ≡ Ok None → values ≡ []
was_none [] h = refl
was_none (value ∷ []) h = cc h
was_none (value ∷ other ∷ values) h = cc h

-- and one of a name that wasn't there gives its value
value_of-added : (name : List ℕ) (pairs : List Pair) (pair : Pair) → is_named name pair ≡ true → value_of pairs name ≡ Ok None → value_of (pairs ++ pair ∷ []) name ≡ Ok (Some pair.value)
value_of-added name pairs pair same none =
    let one : values_named name (pair ∷ []) ≡ pair.value ∷ [] = rw same refl in
    let nothing = was_none (values_named name pairs) none in
    ap single (values_named-added name pairs pair ∙ ap (λ more. values_named name pairs ++ more) one ∙ ap (λ values. values ++ pair.value ∷ []) nothing)

module _ (pairs : List Pair) (text : List ℕ) where
  abbrev added : List Pair
  added = pairs ++ cursor_pair text ∷ []

  number-kept : (p : Parameter) (low high : ℕ) (default : Option ℕ) → is_named (name_of p) (cursor_pair text) ≡ false → number_at added p low high default ≡ number_at pairs p low high default
  unfolding number_at
  number-kept p low high default other = ap (λ value. under p (number_from low high default value)) (value_of-other (name_of p) pairs (cursor_pair text) other)

  place-kept : (p : Parameter) (stops : List Stop) (scale : ℕ) → is_named (name_of p) (cursor_pair text) ≡ false → place_at added p stops scale ≡ place_at pairs p stops scale
  unfolding place_at
  place-kept p stops scale other = ap (λ value. under p (place_from stops scale value)) (value_of-other (name_of p) pairs (cursor_pair text) other)

  read_none : (read : Option Cursor) → under parameter.Cursor (read_one read) ≡ Ok None → {C : Type 0} → C
  read_none None h = cc h
  read_none (Some cursor) h = cc h

  no_cursor : (value : Result (Option (List ℕ)) QueryFault) → under parameter.Cursor (cursor_from value) ≡ Ok None → value ≡ Ok None
  no_cursor (Err cause) h = cc h
  no_cursor (Ok None) h = refl
  no_cursor (Ok (Some text)) h = read_none (cursor_of text) h

  cursor-added : (cursor : Cursor) → cursor_of text ≡ Some cursor → cursor_at pairs ≡ Ok None → cursor_at added ≡ Ok (Some cursor)
  unfolding cursor_at
  cursor-added cursor reads none =
      let value = value_of-added (codes "cursor") pairs (cursor_pair text) refl (no_cursor (value_of pairs (codes "cursor")) none) in
      ap (λ value. under parameter.Cursor (cursor_from value)) value ∙ ap (λ read. under parameter.Cursor (read_one read)) reads

  pub request-added : (stops : List Stop) (scale : ℕ) (r : Request) (cursor : Cursor) → request_in pairs stops scale ≡ Ok r → r.cursor ≡ None → cursor_of text ≡ Some cursor
      → request_in added stops scale ≡ Ok (from_cursor r (Some cursor))
  unfolding request_in
  request-added stops scale r cursor h none reads =
      let there : Request = from_cursor r (Some cursor) in
      kept_step (place_at pairs parameter.From stops scale) (place_at added parameter.From stops scale) _ _ r there h (place-kept parameter.From stops scale refl) (λ x1 h1.
      kept_step (place_at pairs parameter.To stops scale) (place_at added parameter.To stops scale) _ _ r there h1 (place-kept parameter.To stops scale refl) (λ x2 h2.
      kept_step (number_at pairs parameter.Time 0 9999999999 None) (number_at added parameter.Time 0 9999999999 None) _ _ r there h2 (number-kept parameter.Time 0 9999999999 None refl) (λ x3 h3.
      kept_step (number_at pairs parameter.Window 1 86400 (Some 3600)) (number_at added parameter.Window 1 86400 (Some 3600)) _ _ r there h3 (number-kept parameter.Window 1 86400 (Some 3600) refl) (λ x4 h4.
      kept_step (number_at pairs parameter.Rides 1 8 (Some 4)) (number_at added parameter.Rides 1 8 (Some 4)) _ _ r there h4 (number-kept parameter.Rides 1 8 (Some 4) refl) (λ x5 h5.
      kept_step (number_at pairs parameter.Slack 0 3600 (Some 120)) (number_at added parameter.Slack 0 3600 (Some 120)) _ _ r there h5 (number-kept parameter.Slack 0 3600 (Some 120) refl) (λ x6 h6.
      kept_step (number_at pairs parameter.WalkPoints 100 2000 (Some 200)) (number_at added parameter.WalkPoints 100 2000 (Some 200)) _ _ r there h6 (number-kept parameter.WalkPoints 100 2000 (Some 200) refl) (λ x7 h7.
      kept_step (number_at pairs parameter.BoardPoints 0 1000000 (Some 60000)) (number_at added parameter.BoardPoints 0 1000000 (Some 60000)) _ _ r there h7 (number-kept parameter.BoardPoints 0 1000000 (Some 60000) refl) (λ x8 h8.
      kept_step (number_at pairs parameter.Page 1 200 (Some 20)) (number_at added parameter.Page 1 200 (Some 20)) _ _ r there h8 (number-kept parameter.Page 1 200 (Some 20) refl) (λ x9 h9.
      changed_step (cursor_at pairs) (cursor_at added) _ _ r there None (Some cursor) h9
      (λ before h10.
      let least = stepped (number_at pairs parameter.AtLeast 0 1099511627776 (Some 0)) _ r h10 in
      let last = stepped (number_at pairs parameter.Pin 0 1 (Some 0)) _ r least.gives in
      ap (λ (read : Result Request Refusal). (request_or r read).cursor) last.gives ∙ none)
      (cursor-added cursor reads)
      (λ h10.
      let least = stepped (number_at pairs parameter.AtLeast 0 1099511627776 (Some 0)) _ r h10 in
      let last = stepped (number_at pairs parameter.Pin 0 1 (Some 0)) _ r least.gives in
      step (number_at added parameter.AtLeast 0 1099511627776 (Some 0)) _ least.from (Ok there) (number-kept parameter.AtLeast 0 1099511627776 (Some 0) refl ∙ least.was)
      (step (number_at added parameter.Pin 0 1 (Some 0)) _ last.from (Ok there) (number-kept parameter.Pin 0 1 (Some 0) refl ∙ last.was)
      (ap (λ (read : Result Request Refusal). Ok (from_cursor (request_or r read) (Some cursor))) last.gives))))))))))))

pub leads_on : NextLeadsOn
leads_on query stops scale r cursor h none fits =
    let text = cursor_text_of cursor in
    ap (λ pairs. request_in pairs stops scale) (pairs_of-added query 99 (codes "ursor") text (kept (codes "cursor") refl) (kept_text cursor fits) (letters (codes "cursor") refl))
    ∙ request-added (pairs_of query) text stops scale r cursor h none (reads_back cursor fits)
