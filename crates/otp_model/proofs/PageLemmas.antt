-- Pages that lead on to one another.
use Rattle.std.proofs.Common.{◌≡◌, ℕ, ◌<◌, ◌≤◌, Bool, true, false, List, [], ◌∷◌, ◌++◌, map, length, take, drop, Option, Some, None, IsTrue, inl, inr, refl, sym, ◌∙◌, ap, subst, arith, append_assoc, zero, suc}
use Rattle.std.specs.List.{filter, flat_map}
use Rattle.std.proofs.lemmas.Bool.{cases_Bool, cases_lt}
use Rattle.std.proofs.lemmas.List.{append-nil, length-append, length-map, take-append-drop, take-map, take_all, length-take-le}
use Rattle.otp_model.specs.declared.timetable.Run.{Run}
use Rattle.otp_model.specs.declared.timetable.Edges.{Edges}
use Rattle.otp_model.specs.declared.journey.Request.{Request}
use Rattle.otp_model.specs.declared.journey.Cursor.{Cursor}
use Rattle.otp_model.specs.declared.journey.Value.{Value}
use Rattle.otp_model.specs.declared.journey.Found.{Found}
use Rattle.otp_model.specs.Whole.{IsBest, IsWhole, IsPage, is_after, value_cmp, left_of}
use Rattle.otp_model.specs.Laws.{ArePages, HasOneList, HasPages, PagesJoin, cursor_behind, from_cursor, values_of}
use Rattle.otp_model.proofs.Values.{value_cmp_total}
use Rattle.otp_model.proofs.RisingLemmas.{Rises, above_is_end, above_middle, in_from_any, of_all, rises, same_lists}
use Rattle.otp_model.proofs.CursorLemmas.{best_from, best_to, whole_from}

-- two whole lists have the same values
pub one_list : HasOneList
one_list runs edges r cursor one other h k =
    same_lists value_cmp value_cmp_total (values_of one) (values_of other)
    (rises value_cmp (λ found. found.value) one h.rises)
    (rises value_cmp (λ found. found.value) other k.rises)
    (λ v i.
    let b : IsBest runs edges r v = of_all value_cmp (λ found. found.value) (IsBest runs edges r) v one h.best i in
    in_from_any value_cmp (λ found. found.value) v other (k.all v (best_from runs edges r cursor v b)))
    (λ v i.
    let b : IsBest runs edges (from_cursor r cursor) v = of_all value_cmp (λ found. found.value) (IsBest runs edges (from_cursor r cursor)) v other k.best i in
    in_from_any value_cmp (λ found. found.value) v one (h.all v (best_to runs edges r cursor v b)))

-- a map before a filter, and behind it
map_filtered : {X Y : Type 0} (f : X → Y) (p : Y → Bool) (xs : List X) → map f (filter (λ x. p (f x)) xs) ≡ filter p (map f xs)
map_filtered f p [] = refl
map_filtered f p (x ∷ xs) =
    elim (cases_Bool (p (f x))) [
      | inl e ↦ rw e (ap (λ z. f x ∷ z) (map_filtered f p xs))
      | inr e ↦ rw e (map_filtered f p xs)
    ]

false_is : IsTrue false → ⊥
false_is h = cc h

-- the values of the entries above a cursor
abbrev left_in : Option Cursor → List Found → List Value
left_in cursor whole = filter (is_after cursor) (values_of whole)

values_left : (r : Request) (whole : List Found) → values_of (left_of r whole) ≡ left_in r.cursor whole
values_left r whole = map_filtered (λ found. found.value) (is_after r.cursor) whole

-- a page of some whole list has values of any of them
page_values : (runs : List Run) (edges : Edges) (r : Request) (cursor : Option Cursor) (whole page : List Found) (more : Bool)
    → IsWhole runs edges r whole → IsPage runs edges (from_cursor r cursor) page more → values_of page ≡ take r.page (left_in cursor whole)
page_values runs edges r cursor whole page more h k =
    let one : values_of whole ≡ values_of k.whole = one_list runs edges r cursor whole k.whole h k.is_whole in
    ap values_of k.list_is ∙ sym (take-map (λ found. found.value) r.page (left_of (from_cursor r cursor) k.whole))
    ∙ ap (take r.page) (values_left (from_cursor r cursor) k.whole) ∙ ap (λ vs. take r.page (filter (is_after cursor) vs)) (sym one)

-- and as many are left above the cursor
left_lengths : (runs : List Run) (edges : Edges) (r : Request) (cursor : Option Cursor) (whole other : List Found)
    → IsWhole runs edges r whole → IsWhole runs edges (from_cursor r cursor) other
    → length (left_of (from_cursor r cursor) other) ≡ length (left_in cursor whole)
left_lengths runs edges r cursor whole other h k =
    sym (length-map (left_of (from_cursor r cursor) other) (λ found. found.value))
    ∙ ap length (values_left (from_cursor r cursor) other)
    ∙ ap (λ vs. length (filter (is_after cursor) vs)) (sym (one_list runs edges r cursor whole other h k))

-- the cursor behind a page is of the last value on it
record EndsAt (commit : ℕ) (page : List Found) : Type 0 where
  front : List Value
  value : Value
  values : values_of page ≡ front ++ value ∷ []
  cursor : cursor_behind commit page ≡ Some (record { commit = commit; value = value })

ends_at : (commit : ℕ) (page : List Found) → 1 ≤ length page → EndsAt commit page
ends_at commit [] h = absurd (omega arith)
ends_at commit (found ∷ []) h = record { front = []; value = found.value; values = refl; cursor = refl }
ends_at commit (found ∷ other ∷ list) h =
    let rest = ends_at commit (other ∷ list) (omega arith) in
    record { front = found.value ∷ rest.front; value = rest.value; values = ap (λ z. found.value ∷ z) rest.values; cursor = rest.cursor }

all_of : (vs : List Value) → filter (is_after None) vs ≡ vs
all_of [] = refl
all_of (v ∷ vs) = ap (λ z. v ∷ z) (all_of vs)

-- what is above a cursor in a rising list is its end
after_is_end : (cursor : Option Cursor) (vs : List Value) → Rises value_cmp vs → (front : List Value) × (vs ≡ front ++ filter (is_after cursor) vs)
after_is_end None vs h = ([], sym (all_of vs))
after_is_end (Some cursor) vs h = above_is_end value_cmp value_cmp_total cursor.value vs h

-- what is above an element of a rising list is what stands behind it
after_middle : (commit : ℕ) (v : Value) (front back vs : List Value) → vs ≡ front ++ v ∷ back → Rises value_cmp vs
    → filter (is_after (Some (record { commit = commit; value = v }))) vs ≡ back
after_middle commit v front back vs e h =
    ap (filter (is_after (Some (record { commit = commit; value = v })))) e
    ∙ above_middle value_cmp value_cmp_total v front back (subst (Rises value_cmp) e h)

regrouped : (outer inner back vs left : List Value) (v : Value) → vs ≡ outer ++ left → left ≡ (inner ++ v ∷ []) ++ back
    → vs ≡ (outer ++ inner) ++ v ∷ back
regrouped outer inner back vs left v e f =
    e ∙ ap (λ z. outer ++ z) (f ∙ append_assoc inner (v ∷ []) back) ∙ sym (append_assoc outer inner (v ∷ back))

-- a page of the first n values of a list's end, and what is above the last of them
page_and_rest : (n commit : ℕ) (cursor : Option Cursor) (page : List Found) (vs : List Value) → 1 ≤ n → Rises value_cmp vs
    → values_of page ≡ take n (filter (is_after cursor) vs) → n < length (filter (is_after cursor) vs)
    → values_of page ++ filter (is_after (cursor_behind commit page)) vs ≡ filter (is_after cursor) vs
page_and_rest n commit cursor page vs some h e more =
    let left = filter (is_after cursor) vs in
    let size : length page ≡ n =
    sym (length-map page (λ found. found.value)) ∙ ap length e ∙ length-take-le n left (omega (arith, more)) in
    let end = ends_at commit page (omega (arith, size, some)) in
    let outer = after_is_end cursor vs h in
    let parts : left ≡ (end.front ++ end.value ∷ []) ++ drop n left =
    sym (take-append-drop n left) ∙ ap (λ z. z ++ drop n left) (sym e ∙ end.values) in
    let whole = regrouped outer.0 end.front (drop n left) vs left end.value outer.1 parts in
    let rest : filter (is_after (cursor_behind commit page)) vs ≡ drop n left =
    ap (λ c. filter (is_after c) vs) end.cursor
    ∙ after_middle commit end.value (outer.0 ++ end.front) (drop n left) vs whole h in
    ap (λ z. z ++ filter (is_after (cursor_behind commit page)) vs) e ∙ ap (λ z. take n left ++ z) rest ∙ take-append-drop n left

-- the pages from a cursor on have the values above it
joined_from : (runs : List Run) (edges : Edges) (r : Request) (commit : ℕ) (whole : List Found) (cursor : Option Cursor) (pages : List (List Found))
    → 1 ≤ r.page → IsWhole runs edges r whole → ArePages runs edges r commit cursor pages → flat_map values_of pages ≡ left_in cursor whole
joined_from runs edges r commit whole cursor [] some h k = absurd k
joined_from runs edges r commit whole cursor (page ∷ []) some h k =
    let few : length (left_of (from_cursor r cursor) k.whole) ≤ r.page =
    elim (cases_lt r.page (length (left_of (from_cursor r cursor) k.whole))) [
      | inl more ↦ absurd (false_is (k.more_is.1 more))
      | inr few ↦ few
    ] in
    append-nil (values_of page) ∙ page_values runs edges r cursor whole page false h k
    ∙ take_all r.page (left_in cursor whole) (omega (arith, few, left_lengths runs edges r cursor whole k.whole h k.is_whole))
joined_from runs edges r commit whole cursor (page ∷ next ∷ pages) some h k =
    let rest = joined_from runs edges r commit whole (cursor_behind commit page) (next ∷ pages) some h k.1 in
    let more : r.page < length (left_in cursor whole) =
    omega (arith, k.0.more_is.0 refl, left_lengths runs edges r cursor whole k.0.whole h k.0.is_whole) in
    ap (λ z. values_of page ++ z) rest
    ∙ page_and_rest r.page commit cursor page (values_of whole) some (rises value_cmp (λ found. found.value) whole h.rises)
    (page_values runs edges r cursor whole page true h k.0) more

pub pages_join : PagesJoin
pages_join runs edges r commit whole pages some h k =
    joined_from runs edges r commit whole None pages some h k ∙ all_of (values_of whole)

-- the first page behind a cursor
abbrev first_of : Request → Option Cursor → List Found → List Found
first_of r cursor whole = take r.page (left_of (from_cursor r cursor) whole)

first_is : (runs : List Run) (edges : Edges) (r : Request) (whole : List Found) → IsWhole runs edges r whole → (cursor : Option Cursor) → r.page < length (left_of (from_cursor r cursor) whole)
    → IsPage runs edges (from_cursor r cursor) (first_of r cursor whole) true
first_is runs edges r whole h cursor more =
    record { whole = whole; is_whole = whole_from runs edges r cursor whole h; list_is = refl; more_is = (λ t. more, λ l. refl) }

last_page : (runs : List Run) (edges : Edges) (r : Request) (commit : ℕ) (whole : List Found) → IsWhole runs edges r whole → (cursor : Option Cursor)
    → length (left_of (from_cursor r cursor) whole) ≤ r.page → (pages : List (List Found)) × ArePages runs edges r commit cursor pages
last_page runs edges r commit whole h cursor few = (
  first_of r cursor whole ∷ [],
  record {
    whole = whole;
    is_whole = whole_from runs edges r cursor whole h;
    list_is = refl;
    more_is = (λ t. absurd (false_is t), λ l. absurd (omega (arith, l, few)));
  },
)

next_page : (runs : List Run) (edges : Edges) (r : Request) (commit : ℕ) (whole : List Found) → IsWhole runs edges r whole → (cursor : Option Cursor)
    → r.page < length (left_of (from_cursor r cursor) whole)
    → (pages : List (List Found)) × ArePages runs edges r commit (cursor_behind commit (first_of r cursor whole)) pages
    → (pages : List (List Found)) × ArePages runs edges r commit cursor pages
next_page runs edges r commit whole h cursor more ([], are) = absurd are
next_page runs edges r commit whole h cursor more (next ∷ pages, are) =
    (first_of r cursor whole ∷ next ∷ pages, (first_is runs edges r whole h cursor more, are))

-- fewer values are left behind a page than before it
fewer_left : (runs : List Run) (edges : Edges) (r : Request) (commit : ℕ) (whole : List Found) → 1 ≤ r.page → IsWhole runs edges r whole → (cursor : Option Cursor)
    → r.page < length (left_of (from_cursor r cursor) whole)
    → length (left_in (cursor_behind commit (first_of r cursor whole)) whole) < length (left_in cursor whole)
fewer_left runs edges r commit whole some h cursor more =
    let size = left_lengths runs edges r cursor whole whole h (whole_from runs edges r cursor whole h) in
    let values = page_values runs edges r cursor whole (first_of r cursor whole) true h (first_is runs edges r whole h cursor more) in
    let left : r.page < length (left_in cursor whole) = omega (arith, size, more) in
    let parts = page_and_rest r.page commit cursor (first_of r cursor whole) (values_of whole) some (rises value_cmp (λ found. found.value) whole h.rises) values left in
    let sum = sym (length-append (values_of (first_of r cursor whole)) (left_in (cursor_behind commit (first_of r cursor whole)) whole)) ∙ ap length parts in
    let front : length (values_of (first_of r cursor whole)) ≡ r.page = ap length values ∙ length-take-le r.page (left_in cursor whole) (omega (arith, left)) in
    omega (arith, sum, front, some)

-- the pages from a cursor on, where at most so many values are left above it
pages_from : (runs : List Run) (edges : Edges) (r : Request) (commit : ℕ) (whole : List Found) → 1 ≤ r.page → IsWhole runs edges r whole
    → (n : ℕ) (cursor : Option Cursor) → length (left_in cursor whole) ≤ n → (pages : List (List Found)) × ArePages runs edges r commit cursor pages
pages_from runs edges r commit whole some h zero cursor left =
    let size = left_lengths runs edges r cursor whole whole h (whole_from runs edges r cursor whole h) in
    last_page runs edges r commit whole h cursor (omega (arith, left, size))
pages_from runs edges r commit whole some h (suc n) cursor left =
    elim (cases_lt r.page (length (left_of (from_cursor r cursor) whole))) [
      | inl more ↦
          next_page runs edges r commit whole h cursor more
          (pages_from runs edges r commit whole some h n (cursor_behind commit (first_of r cursor whole)) (omega (arith, left, fewer_left runs edges r commit whole some h cursor more)))
      | inr few ↦ last_page runs edges r commit whole h cursor few
    ]

pub has_pages : HasPages
has_pages runs edges r commit whole some h =
    pages_from runs edges r commit whole some h (length (left_in None whole)) None (omega arith)
