-- Services by number: names in the order of first sight, and the numbers of those that pass a test.
use Rattle.std.proofs.Common.{◌≡◌, ◌⊎◌, ℕ, ℤ, zero, suc, ◌+◌, ◌^◌, ◌<◌, ◌≤◌, List, [], ◌∷◌, ◌++◌, length, map, get_or, Bool, true, false, cond, not, ◌&&◌, ◌||◌, IsTrue, Option, Some, None, refl, sym, ap, subst, ◌∙◌, inl, inr, arith, add-one, length-append}
use Rattle.std.specs.Prelude.{slice_get, ◌↔◌}
use Rattle.std.specs.List.{All, Contains, filter, range_with_len}
use Rattle.std.specs.List.Sorted.{IsStrictlyIncreasing}
use Rattle.std.specs.Option.{option_map_or}
use Rattle.std.specs.Str.{bytes_eq}
use Rattle.std.proofs.lemmas.List.{length-map}
use Rattle.std.proofs.lemmas.List.Elements.{All-contains, All-filter, All-from_get_or, Contains-append_cases, Contains-append_left, Contains-append_right, Contains-get_or, Contains-push_cases, filter-append, filter_agree, filter_passes}
use Rattle.std.proofs.lemmas.List.FromFn.{get_or-range_with_len, length-range_with_len}
use Rattle.std.proofs.lemmas.List.Kept.{IsStrictlyIncreasing-filter}
use Rattle.std.proofs.lemmas.Option.{slice_get_within}
use Rattle.name_index.proofs.SightFacts.{first_sights-shorter, has-first_sights, noted_all, starts_noting}
use Rattle.name_index.proofs.TestFacts.{bytes_eq-refl, same_bytes}
use Rattle.otp_model.specs.Services.{service_ids, services_of}
use Rattle.otp_model.specs.Sights.{first_sights, has_name, is_other, noted, place_of}
use Rattle.otp_model.specs.declared.tables.CalendarRow.{CalendarRow}
use Rattle.otp_model.specs.declared.tables.DateRow.{DateRow}
use Rattle.otp_model.specs.declared.tables.Tables.{Tables}
use Rattle.service_days.specs.Active.{NumbersActive, active_services, excepted_ids, excepts, is_active, passes, passing, runs_by, runs_on, scheduled_ids, schedules}

-- ---- noting

noted_all-append : (seen names more : List (List ℕ)) → noted_all seen (names ++ more) ≡ noted_all (noted_all seen names) more
unfolding noted_all
noted_all-append seen [] more = refl
noted_all-append seen (name ∷ names) more = noted_all-append (noted seen name) names more

-- noting more names after those of `seen`
pub noted_all-seen : (names seen more : List (List ℕ)) → names ≡ first_sights seen → noted_all names more ≡ first_sights (seen ++ more)
noted_all-seen names seen more e =
    ap (λ (start : List (List ℕ)). noted_all start more) (e ∙ sym (starts_noting seen))
    ∙ (sym (noted_all-append [] seen more) ∙ starts_noting (seen ++ more))

pub runs_by-sights : (added removed scheduled : List (List ℕ)) (id : List ℕ)
    → runs_by (first_sights added) (first_sights removed) (first_sights scheduled) id ≡ runs_by added removed scheduled id
runs_by-sights added removed scheduled id = rw (has-first_sights added id, has-first_sights removed id, has-first_sights scheduled id) refl

-- ---- each name once

EachOnce : List (List ℕ) → Type 0
EachOnce [] = Unit {0}
EachOnce (name ∷ names) = (has_name names name ≡ false) × EachOnce names

without : (p : List ℕ → Bool) (names : List (List ℕ)) (name : List ℕ) → has_name names name ≡ false → has_name (filter p names) name ≡ false
without p [] name h = refl
without p (other ∷ names) name h = by (p other) (bytes_eq name other) refl h (without p names name)
  where
    by : (kept same : Bool) → bytes_eq name other ≡ same → (same || has_name names name) ≡ false → (has_name names name ≡ false → has_name (filter p names) name ≡ false)
        → has_name (cond kept (other ∷ filter p names) (filter p names)) name ≡ false
    by kept true e t more = cc t
    by true false e t more = rw e (more t)
    by false false e t more = more t

left_out : (name : List ℕ) (names : List (List ℕ)) → has_name (filter (is_other name) names) name ≡ false
left_out name [] = refl
left_out name (other ∷ names) = by (bytes_eq name other) refl (left_out name names)
  where
    by : (same : Bool) → bytes_eq name other ≡ same → has_name (filter (is_other name) names) name ≡ false
        → has_name (cond (not same) (other ∷ filter (is_other name) names) (filter (is_other name) names)) name ≡ false
    by true e more = more
    by false e more = rw e more

once-filter : (p : List ℕ → Bool) (names : List (List ℕ)) → EachOnce names → EachOnce (filter p names)
unfolding EachOnce
once-filter p [] h = tt
once-filter p (name ∷ names) h = by (p name) (once-filter p names h.1)
  where
    by : (kept : Bool) → EachOnce (filter p names) → EachOnce (cond kept (name ∷ filter p names) (filter p names))
    by true more = (without p names name h.0, more)
    by false more = more

once-sights : (names : List (List ℕ)) → EachOnce (first_sights names)
unfolding EachOnce first_sights
once-sights [] = tt
once-sights (name ∷ names) = (left_out name (first_sights names), once-filter (is_other name) (first_sights names) (once-sights names))

has-got : (names : List (List ℕ)) (k : ℕ) (name : List ℕ) → slice_get names k ≡ Some name → has_name names name ≡ true
has-got [] k name h = cc h
has-got (other ∷ names) zero name h =
    let same : other ≡ name = cc h in
    rw (same, bytes_eq-refl name) refl
has-got (other ∷ names) (suc k) name h = by (bytes_eq name other) (has-got names k name h)
  where
    by : (b : Bool) → has_name names name ≡ true → (b || has_name names name) ≡ true
    by true more = refl
    by false more = more

place-got : (names : List (List ℕ)) (k : ℕ) (name : List ℕ) → EachOnce names → slice_get names k ≡ Some name → place_of names name ≡ k
unfolding EachOnce place_of
place-got [] k name once h = cc h
place-got (other ∷ names) zero name once h =
    let same : other ≡ name = cc h in
    rw (same, bytes_eq-refl name) refl
place-got (other ∷ names) (suc k) name once h = by (bytes_eq name other) refl (place-got names k name once.1 h)
  where
    by : (b : Bool) → bytes_eq name other ≡ b → place_of names name ≡ k → cond b 0 (place_of names name + 1) ≡ suc k
    by true e more =
        let same : name ≡ other = same_bytes name other e in
        let there : has_name names other ≡ true = subst (λ (x : List ℕ). has_name names x ≡ true) same (has-got names k name h) in
        absurd (cc (sym there ∙ once.0))
    by false e more = omega (arith, more)

pub number-got : (names : List (List ℕ)) (k : ℕ) (name : List ℕ) → slice_get (first_sights names) k ≡ Some name → k ≡ place_of (first_sights names) name
number-got names k name h = sym (place-got (first_sights names) k name (once-sights names) h)

pub get-place : (names : List (List ℕ)) (name : List ℕ) → has_name names name ≡ true → slice_get names (place_of names name) ≡ Some name
unfolding place_of
get-place [] name h = cc h
get-place (other ∷ names) name h = by (bytes_eq name other) refl (get-place names name) h
  where
    by : (b : Bool) → bytes_eq name other ≡ b → (has_name names name ≡ true → slice_get names (place_of names name) ≡ Some name) → (b || has_name names name) ≡ true
        → slice_get (other ∷ names) (cond b 0 (place_of names name + 1)) ≡ Some name
    by true e more t = ap (λ (x : List ℕ). Some x) (sym (same_bytes name other e))
    by false e more t = rw add-one (more t)

-- ---- a service that runs is there

has-kept : {Row : Type 0} (id_of : Row → List ℕ) (test : Row → Bool) (rows : List Row) (id : List ℕ)
    → has_name (map id_of (filter test rows)) id ≡ true → has_name (map id_of rows) id ≡ true
has-kept id_of test [] id h = h
has-kept id_of test (row ∷ rows) id h = by (test row) (bytes_eq id (id_of row)) refl (has-kept id_of test rows id) h
  where
    by : (kept same : Bool) → bytes_eq id (id_of row) ≡ same → (has_name (map id_of (filter test rows)) id ≡ true → has_name (map id_of rows) id ≡ true)
        → has_name (map id_of (cond kept (row ∷ filter test rows) (filter test rows))) id ≡ true → (same || has_name (map id_of rows) id) ≡ true
    by kept true e more t = refl
    by true false e more t = more (rw e at t)
    by false false e more t = more t

has-either : (names more : List (List ℕ)) (id : List ℕ) → has_name (names ++ more) id ≡ (has_name names id || has_name more id)
has-either [] more id = refl
has-either (name ∷ names) more id = by (bytes_eq id name) (has-either names more id)
  where
    by : (b : Bool) → has_name (names ++ more) id ≡ (has_name names id || has_name more id) → (b || has_name (names ++ more) id) ≡ ((b || has_name names id) || has_name more id)
    by true e = refl
    by false e = e

either-of : (added scheduled removed : Bool) → (added || (scheduled && not removed)) ≡ true → (added ≡ true) ⊎ (scheduled ≡ true)
either-of true scheduled removed h = inl refl
either-of false true removed h = inr refl
either-of false false removed h = cc h

or-one : (a b : Bool) → (a ≡ true) ⊎ (b ≡ true) → (a || b) ≡ true
or-one true b h = refl
or-one false b (inl h) = cc h
or-one false b (inr h) = h

pub runs_there : (tables : Tables) (day : ℤ) (id : List ℕ) → runs_on tables day id ≡ true → has_name (services_of tables) id ≡ true
runs_there tables day id h =
    has-first_sights (service_ids tables) id
    ∙ (has-either (map (λ (row : CalendarRow). row.service_id) tables.calendars) (map (λ (row : DateRow). row.service_id) tables.dates) id
    ∙ or-one (has_name (map (λ (row : CalendarRow). row.service_id) tables.calendars) id) (has_name (map (λ (row : DateRow). row.service_id) tables.dates) id)
    (elim (either-of (has_name (excepted_ids tables 1 day) id) (has_name (scheduled_ids tables day) id) (has_name (excepted_ids tables 2 day) id) h) [
      | inl added ↦ inr (has-kept (λ (row : DateRow). row.service_id) (excepts 1 day) tables.dates id added)
      | inr scheduled ↦ inl (has-kept (λ (row : CalendarRow). row.service_id) (schedules day) tables.calendars id scheduled)
    ]))

-- a number is active exactly where it is that of a service that runs
pub active-number : (tables : Tables) (day : ℤ) (n : ℕ) → is_active tables day n ≡ true → NumbersActive tables day n
active-number tables day n h = by (slice_get (services_of tables) n) refl h
  where
    by : (got : Option (List ℕ)) → slice_get (services_of tables) n ≡ got → option_map_or (runs_on tables day) got false ≡ true → NumbersActive tables day n
    by None e t = cc t
    by (Some id) e t = record {
      id = id;
      runs = t;
      is_number = number-got (service_ids tables) n id e;
    }

pub number-active : (tables : Tables) (day : ℤ) (n : ℕ) → NumbersActive tables day n → is_active tables day n ≡ true
number-active tables day n h =
    let there = runs_there tables day h.id h.runs in
    rw (h.is_number, get-place (services_of tables) h.id there) h.runs

-- ---- numbers that pass

range-more : (a n : ℕ) → range_with_len a (suc n) ≡ range_with_len a n ++ (a + n) ∷ []
range-more a zero = ap (λ (k : ℕ). k ∷ []) (omega arith)
range-more a (suc n) = ap (λ (rest : List ℕ). a ∷ rest) (range-more (a + 1) n ∙ ap (λ (k : ℕ). range_with_len (a + 1) n ++ k ∷ []) (omega arith))

pub filter-more : (p : ℕ → Bool) (n : ℕ) → filter p (range_with_len 0 (n + 1)) ≡ filter p (range_with_len 0 n) ++ cond (p n) (n ∷ []) []
filter-more p n =
    let next : range_with_len 0 (n + 1) ≡ range_with_len 0 n ++ n ∷ [] = rw add-one (range-more 0 n ∙ ap (λ (k : ℕ). range_with_len 0 n ++ k ∷ []) (omega arith)) in
    ap (filter p) next ∙ filter-append p (range_with_len 0 n) (n ∷ [])

nowhere : (x : ℕ) → Contains [] x → ⊥
nowhere x (k, below, is) = omega (arith, below)

kept : (p : ℕ → Bool) (xs : List ℕ) (x : ℕ) → p x ≡ true → Contains xs x → Contains (filter p xs) x
kept p [] x h there = there
kept p (y ∷ ys) x h there = by (p y) refl (kept p ys x h) (Contains-append_cases (y ∷ []) ys x there)
  where
    by : (b : Bool) → p y ≡ b → (Contains ys x → Contains (filter p ys) x) → Contains (y ∷ []) x ⊎ Contains ys x → Contains (cond b (y ∷ filter p ys) (filter p ys)) x
    by true e more (inl first) = Contains-append_left (y ∷ []) (filter p ys) x first
    by true e more (inr later) = Contains-append_right (y ∷ []) (filter p ys) x (more later)
    by false e more (inl first) = elim (Contains-push_cases [] y x first) [ inl none ↦ absurd (nowhere x none) | inr same ↦ absurd (cc (sym e ∙ ap p same ∙ h)) ]
    by false e more (inr later) = more later

-- one number more
pub numbers-step : (p : ℕ → Bool) (n : ℕ) (numbers more : List ℕ) → numbers ≡ filter p (range_with_len 0 n) → more ≡ numbers ++ cond (p n) (n ∷ []) [] → more ≡ filter p (range_with_len 0 (n + 1))
numbers-step p n numbers more is next = next ∙ (ap (λ (xs : List ℕ). xs ++ cond (p n) (n ∷ []) []) is ∙ sym (filter-more p n))

in-range : (n k : ℕ) → k < n → Contains (range_with_len 0 n) k
in-range n k below =
    subst (λ (x : ℕ). Contains (range_with_len 0 n) x) (get_or-range_with_len 0 n k 0 below ∙ omega arith) (Contains-get_or (range_with_len 0 n) k 0 (rw length-range_with_len below))

-- a number is among those that pass exactly where it passes
pub contains-passing : (test : List ℕ → Bool) (services : List (List ℕ)) (n : ℕ) → Contains (passing test services) n ↔ IsTrue (passes test services n)
contains-passing test services n = (
  λ there. All-contains (λ x. passes test services x ≡ true) (passing test services) n (filter_passes (passes test services) (range_with_len 0 (length services))) there,
  λ h. kept (passes test services) (range_with_len 0 (length services)) n h (in-range (length services) n (within (slice_get services n) refl h)),
)
  where
    within : (got : Option (List ℕ)) → slice_get services n ≡ got → option_map_or test got false ≡ true → n < length services
    within None e t = cc t
    within (Some id) e t = slice_get_within services n id e

rises-range : (n : ℕ) → IsStrictlyIncreasing (range_with_len 0 n)
rises-range n k below =
    let next : k + 1 < n = subst (λ (m : ℕ). k + 1 < m) (length-range_with_len 0 n) below in
    let here : k < n = omega arith in
    rw (get_or-range_with_len 0 n k 0 here, get_or-range_with_len 0 n (k + 1) 0 next) (omega arith)

pub rises-passing : (test : List ℕ → Bool) (services : List (List ℕ)) → IsStrictlyIncreasing (passing test services)
rises-passing test services = IsStrictlyIncreasing-filter (passes test services) (range_with_len 0 (length services)) (rises-range (length services))

pub below-passing : (test : List ℕ → Bool) (services : List (List ℕ)) → All (λ n. n < length services) (passing test services)
below-passing test services =
    All-filter (passes test services) (λ n. n < length services) (range_with_len 0 (length services))
    (All-from_get_or (λ n. n < length services) (range_with_len 0 (length services)) 0 (λ k below. by k (subst (λ (m : ℕ). k < m) (length-range_with_len 0 (length services)) below)))
  where
    by : (k : ℕ) → k < length services → get_or (range_with_len 0 (length services)) k 0 < length services
    by k below = rw (get_or-range_with_len 0 (length services) k 0 below) (omega (arith, below))

pub passing-agree : (test other : List ℕ → Bool) → ((id : List ℕ) → test id ≡ other id) → (services : List (List ℕ)) → passing test services ≡ passing other services
passing-agree test other same services = filter_agree (passes test services) (passes other services) (λ n. by (slice_get services n)) (range_with_len 0 (length services))
  where
    by : (got : Option (List ℕ)) → option_map_or test got false ≡ option_map_or other got false
    by None = refl
    by (Some id) = same id

-- what the four sets of names give is what the tables say
pub active-passing : (tables : Tables) (day : ℤ) (services added removed scheduled : List (List ℕ)) → services ≡ services_of tables
    → added ≡ first_sights (excepted_ids tables 1 day) → removed ≡ first_sights (excepted_ids tables 2 day) → scheduled ≡ first_sights (scheduled_ids tables day)
    → passing (runs_by added removed scheduled) services ≡ active_services tables day
active-passing tables day services added removed scheduled all a r s =
    rw (all, a, r, s) (passing-agree (runs_by (first_sights (excepted_ids tables 1 day)) (first_sights (excepted_ids tables 2 day)) (first_sights (scheduled_ids tables day))) (runs_on tables day)
    (runs_by-sights (excepted_ids tables 1 day) (excepted_ids tables 2 day) (scheduled_ids tables day)) (services_of tables))

pub few-services : (tables : Tables) → length tables.calendars ≤ 2 ^ 29 → length tables.dates ≤ 2 ^ 29 → length (services_of tables) < 2 ^ 32
few-services tables calendars dates =
    let shorter = first_sights-shorter (service_ids tables) in
    let sum = length-append (map (λ (row : CalendarRow). row.service_id) tables.calendars) (map (λ (row : DateRow). row.service_id) tables.dates) in
    let first = length-map tables.calendars (λ (row : CalendarRow). row.service_id) in
    let second = length-map tables.dates (λ (row : DateRow). row.service_id) in
    omega arith

-- what holds of the list of active services
pub contains-active : (tables : Tables) (day : ℤ) (n : ℕ) → Contains (active_services tables day) n ↔ IsTrue (is_active tables day n)
contains-active tables day n = contains-passing (runs_on tables day) (services_of tables) n

pub contains-named : (tables : Tables) (day : ℤ) (n : ℕ) → Contains (active_services tables day) n ↔ NumbersActive tables day n
contains-named tables day n =
    let member = contains-active tables day n in
    (λ there. active-number tables day n (member.0 there), λ h. member.1 (number-active tables day n h))
