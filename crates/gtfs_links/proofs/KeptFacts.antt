-- Which trips are kept, by numbers and by names.
use Rattle.std.proofs.Common.{◌≡◌, ◌≢◌, ℕ, ◌+◌, ◌<◌, ◌≤◌, List, [], ◌∷◌, ◌++◌, length, map, drop, get_or, set, take, suc, zero, Bool, true, false, cond, not, ◌&&◌, ◌||◌, Option, None, Some, refl, sym, ap, subst, ◌∙◌, add-one, arith, append_assoc, get_or-set_other, get_or-set_same, length-set, replicate}
use Rattle.std.specs.Prelude.{count_by, nat_eq, nat_le, option_map, slice_get}
use Rattle.std.specs.List.{All, filter}
use Rattle.std.specs.Str.{bytes_eq}
use Rattle.std.proofs.lemmas.Bool.{eqb-false, eqb-true}
use Rattle.std.proofs.lemmas.List.{append-nil, drop_all, drop_more, ext_get_or, get_or-map, get_or-replicate, length_push, length-map, length-replicate, length-take-le, take_all}
use Rattle.std.proofs.lemmas.List.Elements.{All-head, All-tail}
use Rattle.std.proofs.lemmas.List.Sums.{count_by-le-length, count_by_more_no, count_by_more_yes, sum_by-cons}
use Rattle.std.proofs.lemmas.Option.{get_or_from_slice_get, slice_get-get_or, slice_get-map, slice_get_read, slice_get_within}
use Rattle.name_index.proofs.SightFacts.{place-below}
use Rattle.name_index.proofs.TestFacts.{or-left, or-right, same_bytes}
use Rattle.otp_base.specs.EachAt.{EachAt}
use Rattle.otp_base.proofs.EachAtLemmas.{each_none, each_push}
use Rattle.otp_model.specs.Sights.{has_name, place_of}
use Rattle.otp_model.specs.declared.tables.StopTimeRow.{StopTimeRow}
use Rattle.otp_model.specs.declared.tables.TripRow.{TripRow}
use Rattle.gtfs_links.specs.Index.{HasId, trip_of_time}
use Rattle.gtfs_links.specs.Kept.{AreCounts, AreKeptNumbers, IsNumberAt, IsPlacedAs, IsPlacedIn, is_call_at, number_at, number_in}
use Rattle.gtfs_links.specs.Keys.{numbers_in}
use Rattle.gtfs_links.specs.Linked.{is_call_of, is_kept}
use Rattle.gtfs_links.specs.Rules.{id_of_trip, is_empty}
use Rattle.gtfs_links.proofs.CalledFacts.{place_at}
use Rattle.gtfs_links.proofs.DistinctFacts.{AreApart, none_has}
use Rattle.gtfs_links.proofs.KeyFacts.{same_place}
use Rattle.gtfs_links.proofs.RepeatFacts.{same_item}

-- How many calls each trip has so far.
module _ (trips : List (List ℕ)) (rows : List StopTimeRow) where
  pub record AreCountedTo (counts : List ℕ) (i : ℕ) : Type 0 where
    pub same_length : length counts ≡ length trips
    pub each : (trip : ℕ) → trip < length trips → get_or counts trip 0 ≡ count_by (is_call_at trips trip) (take i rows)

  module _ (counts : List ℕ) (i : ℕ) (row : StopTimeRow) (l : i < length rows) (e : row ≡ get_or rows i row) (h : AreCountedTo counts i) where
    -- a row that names no stop is no call
    pub passes_row : is_empty row.stop_id ≡ true → AreCountedTo counts (i + 1)
    passes_row empty = record {
      same_length = h.same_length;
      each = λ trip less. h.each trip less ∙ sym (count_by_more_no (is_call_at trips trip) rows i row l (rw (← e) (none trip)));
    }
      where
        none : (trip : ℕ) → is_call_at trips trip row ≡ false
        none trip = rw empty (by (nat_eq trip (place_of trips row.trip_id)))
          where
            by : (b : Bool) → (b && false) ≡ false
            by true = refl
            by false = refl

    pub counts_row : is_empty row.stop_id ≡ false → place_of trips row.trip_id < length trips → AreCountedTo (set counts (place_of trips row.trip_id) (get_or counts (place_of trips row.trip_id) 0 + 1)) (i + 1)
    counts_row filled inside = record { same_length = rw length-set h.same_length; each = each }
      where
        by : (trip : ℕ) → trip < length trips → (b : Bool) → nat_eq trip (place_of trips row.trip_id) ≡ b
            → get_or (set counts (place_of trips row.trip_id) (get_or counts (place_of trips row.trip_id) 0 + 1)) trip 0 ≡ count_by (is_call_at trips trip) (take (i + 1) rows)
        by trip less true t =
            let is : trip ≡ place_of trips row.trip_id = eqb-true trip (place_of trips row.trip_id) t in
            let call : is_call_at trips trip row ≡ true = rw (t, filled) refl in
            let more = count_by_more_yes (is_call_at trips trip) rows i row l (rw (← e) call) in
            let room : place_of trips row.trip_id < length counts = omega (arith, inside, h.same_length) in
            let now : get_or (set counts (place_of trips row.trip_id) (get_or counts (place_of trips row.trip_id) 0 + 1)) (place_of trips row.trip_id) 0 ≡ get_or counts (place_of trips row.trip_id) 0 + 1 = rw get_or-set_same refl in
            let before : get_or counts trip 0 ≡ count_by (is_call_at trips trip) (take i rows) = h.each trip less in
            more_of trip is now before more
          where
            more_of : (t : ℕ) → t ≡ place_of trips row.trip_id
                → get_or (set counts (place_of trips row.trip_id) (get_or counts (place_of trips row.trip_id) 0 + 1)) (place_of trips row.trip_id) 0 ≡ get_or counts (place_of trips row.trip_id) 0 + 1
                → get_or counts t 0 ≡ count_by (is_call_at trips t) (take i rows)
                → count_by (is_call_at trips t) (take (i + 1) rows) ≡ count_by (is_call_at trips t) (take i rows) + 1
                → get_or (set counts (place_of trips row.trip_id) (get_or counts (place_of trips row.trip_id) 0 + 1)) t 0 ≡ count_by (is_call_at trips t) (take (i + 1) rows)
            more_of t is now before more = rw is (now ∙ (ap (λ (n : ℕ). n + 1) (rw is at before) ∙ sym (rw is at more)))
        by trip less false t =
            let differs : trip ≢ place_of trips row.trip_id = eqb-false trip (place_of trips row.trip_id) t in
            let call : is_call_at trips trip row ≡ false = rw t refl in
            let kept : get_or (set counts (place_of trips row.trip_id) (get_or counts (place_of trips row.trip_id) 0 + 1)) trip 0 ≡ get_or counts trip 0 = rw get_or-set_other refl in
            kept ∙ (h.each trip less ∙ sym (count_by_more_no (is_call_at trips trip) rows i row l (rw (← e) call)))

        each : (trip : ℕ) → trip < length trips → get_or (set counts (place_of trips row.trip_id) (get_or counts (place_of trips row.trip_id) 0 + 1)) trip 0 ≡ count_by (is_call_at trips trip) (take (i + 1) rows)
        each trip less = by trip less (nat_eq trip (place_of trips row.trip_id)) refl

  pub counted_none : (counts : List ℕ) → counts ≡ replicate (length trips) 0 → AreCountedTo counts 0
  counted_none counts e = record {
    same_length = ap length e ∙ length-replicate (length trips) 0;
    each = λ trip less. ap (λ (ns : List ℕ). get_or ns trip 0) e ∙ get_or-replicate (length trips) trip 0 0 less;
  }

  pub counted_all : (counts : List ℕ) (i : ℕ) → length rows ≤ i → AreCountedTo counts i → AreCounts trips rows counts
  counted_all counts i l h = record { same_length = h.same_length; each = λ trip less. rw (take_all i rows l) at h.each trip less }

  -- no count is above the number of rows
  pub count_few : (counts : List ℕ) (i trip : ℕ) → i ≤ length rows → trip < length trips → AreCountedTo counts i → get_or counts trip 0 ≤ i
  count_few counts i trip l less h = omega (arith, h.each trip less, count_by-le-length (is_call_at trips trip) (take i rows), length-take-le i rows l)

-- the trip of a row is one of the trips
pub known_at : (trips : List (List ℕ)) (rows : List StopTimeRow) (i : ℕ) (row : StopTimeRow) → i < length rows → row ≡ get_or rows i row → All (HasId trips trip_of_time) rows → place_of trips row.trip_id < length trips
known_at trips rows i row l e known = place-below trips row.trip_id (subst (λ (r : StopTimeRow). has_name trips r.trip_id ≡ true) (sym e) (known i row l))

-- The numbers of the trips that are kept, trip by trip.
module _ (counts : List ℕ) where
  pub record AreNumberedTo (numbers : List (Option ℕ)) (kept i : ℕ) : Type 0 where
    pub same_length : length numbers ≡ i
    pub kept_is : kept ≡ count_by (nat_le 2) (take i counts)
    pub each : EachAt (IsNumberAt counts) numbers

  pub numbered_none : AreNumberedTo [] 0 0
  numbered_none = record { same_length = refl; kept_is = refl; each = each_none (IsNumberAt counts) }

  module _ (numbers : List (Option ℕ)) (kept i : ℕ) (l : i < length counts) (h : AreNumberedTo numbers kept i) where
    pub keeps_next : nat_le 2 (get_or counts i 0) ≡ true → AreNumberedTo (numbers ++ Some kept ∷ []) (kept + 1) (i + 1)
    keeps_next called = record {
      same_length = omega (arith, length_push numbers (Some kept), h.same_length);
      kept_is = ap (λ (n : ℕ). n + 1) h.kept_is ∙ sym (count_by_more_yes (nat_le 2) counts i 0 l called);
      each = each_push (IsNumberAt counts) numbers (Some kept) h.each (rw (h.same_length, called, ← h.kept_is) refl);
    }

    pub leaves_next : nat_le 2 (get_or counts i 0) ≡ false → AreNumberedTo (numbers ++ None ∷ []) kept (i + 1)
    leaves_next uncalled = record {
      same_length = omega (arith, length_push {X = Option ℕ} numbers None, h.same_length);
      kept_is = h.kept_is ∙ sym (count_by_more_no (nat_le 2) counts i 0 l uncalled);
      each = each_push (IsNumberAt counts) numbers None h.each (rw (h.same_length, uncalled) refl);
    }

  pub numbered_all : (numbers : List (Option ℕ)) (kept i : ℕ) → i ≤ length counts → length counts ≤ i → AreNumberedTo numbers kept i → AreKeptNumbers counts numbers
  numbered_all numbers kept i l m h = record { same_length = omega (arith, h.same_length, l, m); each = h.each }

  pub kept_few : (numbers : List (Option ℕ)) (kept i : ℕ) → i ≤ length counts → AreNumberedTo numbers kept i → kept ≤ i
  kept_few numbers kept i l h = omega (arith, h.kept_is, count_by-le-length (nat_le 2) (take i counts), length-take-le i counts l)

-- Row by row, what the rows that pass a test give.
module _ {R Y : Type 0} (f : R → Y) (p : R → Bool) (rows : List R) (i : ℕ) where
  pub passed_more : (row : R) (before now total : List Y) → i < length rows → row ≡ get_or rows i row → p row ≡ true → now ≡ before ++ f row ∷ []
      → before ++ map f (filter p (drop i rows)) ≡ total → now ++ map f (filter p (drop (i + 1) rows)) ≡ total
  passed_more row before now total l e passes n h =
      let cut : drop i rows ≡ row ∷ drop (i + 1) rows = rw (← e) at (drop_more rows i row l) in
      let one = rw (cut, passes) at h in
      rw n (append_assoc before (f row ∷ []) (map f (filter p (drop (i + 1) rows))) ∙ one)

  pub left_out_more : (row : R) (before total : List Y) → i < length rows → row ≡ get_or rows i row → p row ≡ false
      → before ++ map f (filter p (drop i rows)) ≡ total → before ++ map f (filter p (drop (i + 1) rows)) ≡ total
  left_out_more row before total l e fails h =
      let cut : drop i rows ≡ row ∷ drop (i + 1) rows = rw (← e) at (drop_more rows i row l) in
      rw (cut, fails) at h

  pub passed_all : (now total : List Y) → length rows ≤ i → now ++ map f (filter p (drop i rows)) ≡ total → now ≡ total
  passed_all now total l h = let done = rw (drop_all i rows l) at h in sym (append-nil now) ∙ done

-- a test on each row's count is one on the row
pub same_at : (counts : List ℕ) (rows : List TripRow) (is_kept : TripRow → Bool) (i : ℕ) (row : TripRow) → length counts ≡ length rows → map (nat_le 2) counts ≡ map is_kept rows → i < length rows → row ≡ get_or rows i row
    → nat_le 2 (get_or counts i 0) ≡ is_kept row
same_at counts rows is_kept i row same h l e =
    sym (get_or-map (nat_le 2) counts i 0 false (omega (arith, same, l)))
    ∙ (ap (λ (bs : List Bool). get_or bs i false) h
    ∙ (get_or-map is_kept rows i row false l ∙ ap is_kept (sym e)))

-- the new number that an index reads
pub placed_read : (number d : Option ℕ) (numbers : List ℕ) (kept : List (Option ℕ)) (place : ℕ) → IsPlacedAs number numbers kept place → get_or kept (get_or numbers place 0) d ≡ number
placed_read number d numbers kept place h =
    ap (λ (t : ℕ). get_or kept t d) (get_or_from_slice_get numbers place h.0 0 h.1) ∙ get_or_from_slice_get kept h.0 number d h.2

pub placed_within : (number : Option ℕ) (numbers : List ℕ) (kept : List (Option ℕ)) (place : ℕ) → IsPlacedAs number numbers kept place → place < length numbers
placed_within number numbers kept place h = slice_get_within numbers place h.0 h.1

pub trip_within : (number : Option ℕ) (numbers : List ℕ) (kept : List (Option ℕ)) (place : ℕ) → IsPlacedAs number numbers kept place → get_or numbers place 0 < length kept
trip_within number numbers kept place h = rw (get_or_from_slice_get numbers place h.0 0 h.1) (slice_get_within kept h.0 number h.2)

-- a row that is read from a slice of the rows
pub read_row : {R : Type 0} (rows items : List R) (i : ℕ) (row : R) → items ≡ rows → i < length items → row ≡ get_or items i row → (i < length rows) × (row ≡ get_or rows i row) × (slice_get rows i ≡ Some row)
read_row rows items i row e l is =
    let less : i < length rows = omega (arith, l, ap length e) in
    let here : row ≡ get_or rows i row = is ∙ ap (λ xs. get_or xs i row) e in
    (less, here, slice_get_read rows (length rows) i row refl less here)

-- a number that a name has is its place
pub number_found : (names : List (List ℕ)) (name : List ℕ) (n : ℕ) → Some n ≡ number_in names name → (has_name names name ≡ true) × (n ≡ place_of names name)
number_found names name n h = by (has_name names name) refl h
  where
    by : (b : Bool) → has_name names name ≡ b → Some n ≡ cond b (Some (place_of names name)) None → (has_name names name ≡ true) × (n ≡ place_of names name)
    by true e f = (e, same_item n (place_of names name) f)
    by false e f = cc f

pub number_missing : (names : List (List ℕ)) (name : List ℕ) → None ≡ number_in names name → has_name names name ≡ false
number_missing names name h = by (has_name names name) refl h
  where
    by : (b : Bool) → has_name names name ≡ b → None ≡ cond b (Some (place_of names name)) None → has_name names name ≡ false
    by true e f = cc f
    by false e f = e

-- Where no two trips have one id: a trip's calls by its number are those by its id.
own_call : (trips : List TripRow) → AreApart id_of_trip trips → (k : ℕ) → k < length trips → (d : TripRow) (row : StopTimeRow) → has_name (map id_of_trip trips) row.trip_id ≡ true
    → is_call_at (map id_of_trip trips) k row ≡ is_call_of (id_of_trip (get_or trips k d)) row
own_call trips apart k l d row known =
    let place : place_of (map id_of_trip trips) (id_of_trip (get_or trips k d)) ≡ k = place_at id_of_trip trips apart k d l in
    let same = same_place (map id_of_trip trips) (id_of_trip (get_or trips k d)) row.trip_id known in
    ap (λ (b : Bool). b && not (is_empty row.stop_id)) (rw place at same)

count_same : {X : Type 0} (p q : X → Bool) (xs : List X) → All (λ (x : X). p x ≡ q x) xs → count_by p xs ≡ count_by q xs
count_same p q [] same = refl
count_same {X} p q (x ∷ xs) same =
    sum_by-cons (λ (y : X). cond (p y) 1 0) x xs
    ∙ (one (p x) (q x) (All-head (λ (y : X). p y ≡ q y) x xs same) (count_by p xs) (count_by q xs) (count_same p q xs (All-tail (λ (y : X). p y ≡ q y) x xs same))
    ∙ sym (sum_by-cons (λ (y : X). cond (q y) 1 0) x xs))
  where
    one : (a b : Bool) → a ≡ b → (m n : ℕ) → m ≡ n → cond a 1 0 + m ≡ cond b 1 0 + n
    one a b e m n f = rw (e, f) refl

pub counts_tell : (trips : List TripRow) (rows : List StopTimeRow) (counts : List ℕ) → AreApart id_of_trip trips → All (HasId (map id_of_trip trips) trip_of_time) rows → AreCounts (map id_of_trip trips) rows counts
    → map (nat_le 2) counts ≡ map (is_kept rows) trips
counts_tell trips rows counts apart known h = ext_get_or false (map (nat_le 2) counts) (map (is_kept rows) trips) lengths each
  where
    same_length : length counts ≡ length trips
    same_length = h.same_length ∙ length-map trips id_of_trip

    lengths : length (map (nat_le 2) counts) ≡ length (map (is_kept rows) trips)
    lengths = length-map counts (nat_le 2) ∙ (same_length ∙ sym (length-map trips (is_kept rows)))

    tells : (k : ℕ) (d : TripRow) → k < length trips → get_or (map (nat_le 2) counts) k false ≡ get_or (map (is_kept rows) trips) k false
    tells k d l =
        let calls : count_by (is_call_at (map id_of_trip trips) k) rows ≡ count_by (is_call_of (id_of_trip (get_or trips k d))) rows =
        count_same (is_call_at (map id_of_trip trips) k) (is_call_of (id_of_trip (get_or trips k d))) rows (λ j r m. own_call trips apart k l d (get_or rows j r) (known j r m)) in
        let counted : get_or counts k 0 ≡ count_by (is_call_of (id_of_trip (get_or trips k d))) rows = h.each k (omega (arith, l, length-map trips id_of_trip)) ∙ calls in
        get_or-map (nat_le 2) counts k 0 false (omega (arith, l, same_length)) ∙ (ap (nat_le 2) counted ∙ sym (get_or-map (is_kept rows) trips k d false l))

    each : (k : ℕ) → k < length (map (nat_le 2) counts) → get_or (map (nat_le 2) counts) k false ≡ get_or (map (is_kept rows) trips) k false
    each k l = any trips refl
      where
        any : (trips' : List TripRow) → trips' ≡ trips → get_or (map (nat_le 2) counts) k false ≡ get_or (map (is_kept rows) trips) k false
        any [] e = absurd (omega (arith, l, same_length, length-map counts (nat_le 2), ap length e))
        any (d ∷ more) e = tells k d (omega (arith, l, same_length, length-map counts (nat_le 2)))

-- a name that none of the rows has, none of those that pass a test has
has_filter : (p : TripRow → Bool) (trips : List TripRow) (id : List ℕ) → has_name (map id_of_trip trips) id ≡ false → has_name (map id_of_trip (filter p trips)) id ≡ false
has_filter p [] id h = h
has_filter p (trip ∷ trips) id h = by (p trip) (or-left (bytes_eq id trip.trip_id) (has_name (map id_of_trip trips) id) h) (has_filter p trips id (or-right (bytes_eq id trip.trip_id) (has_name (map id_of_trip trips) id) h))
  where
    by : (b : Bool) → bytes_eq id trip.trip_id ≡ false → has_name (map id_of_trip (filter p trips)) id ≡ false → has_name (map id_of_trip (cond b (trip ∷ filter p trips) (filter p trips))) id ≡ false
    by true e more = rw e more
    by false e more = more

-- one trip more in front
number_next : (count : ℕ) (counts : List ℕ) (k : ℕ) → number_at (count ∷ counts) (k + 1) ≡ option_map (λ (n : ℕ). cond (nat_le 2 count) 1 0 + n) (number_at counts k)
number_next count counts k = rw add-one (by (nat_le 2 (get_or counts k 0)))
  where
    by : (b : Bool) → cond b (Some (count_by (nat_le 2) (count ∷ take k counts))) None ≡ option_map (λ (n : ℕ). cond (nat_le 2 count) 1 0 + n) (cond b (Some (count_by (nat_le 2) (take k counts))) None)
    by true = ap (λ (n : ℕ). Some n) (sum_by-cons (λ (c : ℕ). cond (nat_le 2 c) 1 0) count (take k counts))
    by false = refl

number_more : (other : List ℕ) (names : List (List ℕ)) (id : List ℕ) → bytes_eq id other ≡ false → number_in (other ∷ names) id ≡ option_map (λ (n : ℕ). 1 + n) (number_in names id)
unfolding place_of
number_more other names id e = rw e (by (has_name names id))
  where
    by : (b : Bool) → cond b (Some (place_of names id + 1)) None ≡ option_map (λ (n : ℕ). 1 + n) (cond b (Some (place_of names id)) None)
    by true = let same : place_of names id + 1 ≡ 1 + place_of names id = omega arith in ap (λ (n : ℕ). Some n) same
    by false = refl

number_same : (o : Option ℕ) → option_map (λ (n : ℕ). 0 + n) o ≡ o
number_same None = refl
number_same (Some n) = let same : 0 + n ≡ n = omega arith in ap (λ (m : ℕ). Some m) same

-- Where no two trips have one id: the new number of a trip that is there is its number among those kept.
pub new_number : (p : TripRow → Bool) (trips : List TripRow) (counts : List ℕ) → AreApart id_of_trip trips → map (nat_le 2) counts ≡ map p trips → (id : List ℕ) → has_name (map id_of_trip trips) id ≡ true
    → number_at counts (place_of (map id_of_trip trips) id) ≡ number_in (map id_of_trip (filter p trips)) id
unfolding place_of
new_number p [] counts apart same id known = cc known
new_number p (trip ∷ trips) [] apart same id known = cc same
new_number p (trip ∷ trips) (count ∷ counts) apart same id known =
    by (bytes_eq id trip.trip_id) refl (p trip) head known (new_number p trips counts (λ i j d l m. apart (suc i) (suc j) d (omega (arith, l)) (omega (arith, m))) tail id)
  where
    head : nat_le 2 count ≡ p trip
    head = cc same

    tail : map (nat_le 2) counts ≡ map p trips
    tail = cc same

    by : (x : Bool) → bytes_eq id trip.trip_id ≡ x → (b : Bool) → nat_le 2 count ≡ b → (x || has_name (map id_of_trip trips) id) ≡ true
        → (has_name (map id_of_trip trips) id ≡ true → number_at counts (place_of (map id_of_trip trips) id) ≡ number_in (map id_of_trip (filter p trips)) id)
        → number_at (count ∷ counts) (cond x 0 (place_of (map id_of_trip trips) id + 1)) ≡ number_in (map id_of_trip (cond b (trip ∷ filter p trips) (filter p trips))) id
    by true e true f t rest = rw (e, f) refl
    by true e false f t rest =
        let is : id ≡ trip.trip_id = same_bytes id trip.trip_id e in
        let missing : has_name (map id_of_trip trips) id ≡ false = none_has id_of_trip trips id (λ k d l. rw is (apart zero (suc k) d (omega arith) (omega (arith, l)))) in
        rw (f, has_filter p trips id missing) refl
    by false e true f t rest =
        number_next count counts (place_of (map id_of_trip trips) id)
        ∙ (rw (f, rest t) (sym (number_more trip.trip_id (map id_of_trip (filter p trips)) id e)))
    by false e false f t rest =
        number_next count counts (place_of (map id_of_trip trips) id)
        ∙ (rw (f, rest t) (number_same (number_in (map id_of_trip (filter p trips)) id)))

-- The new numbers of the trips that rows name, where all of those are there.
pub are_placed : {R : Type 0} (id_of : R → List ℕ) (p : TripRow → Bool) (trips : List TripRow) (counts : List ℕ) (kept : List (Option ℕ)) (numbers : List ℕ) (rows : List R)
    → AreApart id_of_trip trips → length counts ≡ length trips → map (nat_le 2) counts ≡ map p trips → AreKeptNumbers counts kept → numbers ≡ numbers_in (map id_of_trip trips) id_of rows → All (HasId (map id_of_trip trips) id_of) rows
    → EachAt (IsPlacedIn (map id_of_trip (filter p trips)) id_of numbers kept) rows
are_placed id_of p trips counts kept numbers rows apart many same h n known place row at =
    let inside : place < length rows = slice_get_within rows place row at in
    let has : has_name (map id_of_trip trips) (id_of row) ≡ true = subst (λ r. has_name (map id_of_trip trips) (id_of r) ≡ true) (get_or_from_slice_get rows place row row at) (known place row inside) in
    let trip : ℕ = place_of (map id_of_trip trips) (id_of row) in
    let below : place_of (map id_of_trip trips) (id_of row) < length kept = omega (arith, place-below (map id_of_trip trips) (id_of row) has, length-map trips id_of_trip, many, h.same_length) in
    let number : slice_get numbers place ≡ Some (place_of (map id_of_trip trips) (id_of row)) =
    ap (λ (ns : List ℕ). slice_get ns place) n ∙ (slice_get-map (λ r. place_of (map id_of_trip trips) (id_of r)) rows place ∙ ap (option_map (λ r. place_of (map id_of_trip trips) (id_of r))) at) in
    let read = slice_get-get_or kept (place_of (map id_of_trip trips) (id_of row)) None below in
    let new = h.each (place_of (map id_of_trip trips) (id_of row)) (get_or kept (place_of (map id_of_trip trips) (id_of row)) None) read in
    (place_of (map id_of_trip trips) (id_of row), number, read ∙ ap (λ (o : Option ℕ). Some o) (new ∙ new_number p trips counts apart same (id_of row) has))
