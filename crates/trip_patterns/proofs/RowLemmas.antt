-- Rows as they are written, and their tests.
use Rattle.std.proofs.Common.{◌≡◌, ℕ, ◌+◌, ◌<◌, ◌≤◌, ℤ, pos, ◌≤ℤ◌, ◌<ℤ◌, Bool, IsTrue, ◌↔◌, List, [], ◌∷◌, ◌++◌, length, map, take, get_or, false, true, Some, ◌⊎◌, sym, ap, ◌∙◌, subst, arith, inl, inr}
use Rattle.std.specs.List.{slice_get}
use Rattle.std.proofs.lemmas.Bool.{cases_lt}
use Rattle.std.proofs.lemmas.Int.{by_lt_z, ints}
use Rattle.std.proofs.lemmas.List.{map_more, take_all}
use Rattle.std.proofs.lemmas.Option.{get_or_from_slice_get, slice_get-get_or, slice_get_within}
use Rattle.otp_model.specs.declared.timetable.Call.{Call}
use Rattle.trip_patterns.specs.declared.row.Row.{Row}
use Rattle.trip_patterns.specs.Rows.{IsRowBefore}

abbrev pub no_call : Call
no_call = record { stop = 0; seq = 0; arrival = pos 0; departure = pos 0; board = false; alight = false }

-- a column of a row with one call more
pub written : {Y : Type 0} (f : Call → Y) (calls : List Call) (n : ℕ) (ys zs : List Y) → n < length calls → ys ≡ map f (take n calls)
    → zs ≡ ys ++ f (get_or calls n no_call) ∷ [] → zs ≡ map f (take (n + 1) calls)
written f calls n ys zs less before after =
    after ∙ ap (λ ws. ws ++ f (get_or calls n no_call) ∷ []) before ∙ sym (map_more f calls n no_call less)

pub all_written : {Y : Type 0} (f : Call → Y) (calls : List Call) (n : ℕ) (ys : List Y) → length calls ≤ n → ys ≡ map f (take n calls) → ys ≡ map f calls
all_written f calls n ys more whole = whole ∙ ap (map f) (take_all n calls more)

-- at this call the row doesn't stand behind
abbrev pub IsBeforeAt : List ℤ → List ℤ → List Call → ℕ → Type 0
IsBeforeAt arrivals departures calls k = (call : Call) → slice_get calls k ≡ Some call → (get_or arrivals k (pos 0) ≤ℤ call.arrival) × (get_or departures k (pos 0) ≤ℤ call.departure)

pub under_never : (b : Bool) (P : Type 0) → (IsTrue b ↔ P) → b ≡ false → P → ⊥
under_never b P tells e p = let h : b ≡ true = tells.1 p in cc

not_under : (b : Bool) (x y : ℤ) → (IsTrue b ↔ (x <ℤ y)) → b ≡ false → y ≤ℤ x
not_under b x y tells e = by_lt_z x y (λ under. absurd (under_never b _ tells e under)) (λ over. over)

pub before_here : (arrivals departures : List ℤ) (calls : List Call) (n : ℕ) (a d : Bool)
    → (IsTrue a ↔ ((get_or calls n no_call).arrival <ℤ get_or arrivals n (pos 0))) → a ≡ false
    → (IsTrue d ↔ ((get_or calls n no_call).departure <ℤ get_or departures n (pos 0))) → d ≡ false → IsBeforeAt arrivals departures calls n
before_here arrivals departures calls n a d arrives a-is departs d-is call at =
    let same : get_or calls n no_call ≡ call = get_or_from_slice_get calls n call no_call at in
    (subst (λ (x : Call). get_or arrivals n (pos 0) ≤ℤ x.arrival) same (not_under a _ _ arrives a-is), subst (λ (x : Call). get_or departures n (pos 0) ≤ℤ x.departure) same (not_under d _ _ departs d-is))

pub before_more : (arrivals departures : List ℤ) (calls : List Call) (n : ℕ) → ((k : ℕ) → k < n → IsBeforeAt arrivals departures calls k)
    → IsBeforeAt arrivals departures calls n → (k : ℕ) → k < n + 1 → IsBeforeAt arrivals departures calls k
before_more arrivals departures calls n below here k less =
    elim (cases_lt k n) [ inl under ↦ below k under | inr over ↦ subst (λ (m : ℕ). IsBeforeAt arrivals departures calls m) (let e : n ≡ k = omega arith in e) here ]

not_both : (a b : ℤ) → a <ℤ b → b ≤ℤ a → ⊥
not_both a b h g = omega (arith, ints)

-- a call at which the row stands behind tells that it isn't before these calls
pub not_before : (row : Row) (calls : List Call) (n : ℕ) → n < length calls
    → ((get_or calls n no_call).arrival <ℤ get_or row.arrivals n (pos 0)) ⊎ ((get_or calls n no_call).departure <ℤ get_or row.departures n (pos 0))
    → IsRowBefore row calls → ⊥
not_before row calls n less under before =
    let here = before.each n (get_or calls n no_call) (slice_get-get_or calls n no_call less) in
    elim under [ inl a ↦ not_both _ _ a here.0 | inr d ↦ not_both _ _ d here.1 ]

pub before_all : (row : Row) (calls : List Call) (n : ℕ) → length calls ≤ n
    → ((k : ℕ) → k < n → IsBeforeAt row.arrivals row.departures calls k) → IsRowBefore row calls
before_all row calls n whole below = record {
  each = λ k call at. below k (let within = slice_get_within calls k call at in omega arith) call at;
}
