-- A run, call by call.
use Rattle.std.proofs.Common.{◌≡◌, suc, ◌-◌, ◌≤◌, ◌≤ℤ◌, List, [], ◌∷◌, length, take, drop, get_or, subst, sym, arith}
use Rattle.std.specs.List.{All, AllPairs}
use Rattle.std.proofs.lemmas.List.{take_all}
use Rattle.std.proofs.lemmas.List.Kept.{AllPairs-cons}
use Rattle.otp_model.specs.declared.timetable.Call.{Call}

abbrev pub IsForward : List Call → Type 0
IsForward calls = AllPairs (λ earlier later. earlier.departure ≤ℤ later.arrival) calls

-- the call is left before each of the others is arrived at
abbrev pub IsBeforeAll : Call → List Call → Type 0
IsBeforeAll call others = All (λ later. call.departure ≤ℤ later.arrival) others

-- what a pattern calls the rest of a list
abbrev pub rest_of : List Call → List Call
rest_of calls = take (length calls - 1) (drop 1 calls)

rest_is : (x : Call) (xs : List Call) → rest_of (x ∷ xs) ≡ xs
rest_is x xs = take_all (length (x ∷ xs) - 1) xs (omega arith)

pub forward_from : (calls : List Call) (d : Call) → 1 ≤ length calls → IsBeforeAll (get_or calls 0 d) (rest_of calls) → IsForward (rest_of calls) → IsForward calls
forward_from [] d l before forward = absurd (omega arith)
forward_from (x ∷ xs) d l before forward =
    AllPairs-cons (λ (earlier : Call) (later : Call). earlier.departure ≤ℤ later.arrival) x xs
    (subst (IsBeforeAll x) (rest_is x xs) before)
    (subst IsForward (rest_is x xs) forward)

pub forward_first : (calls : List Call) (d : Call) → 1 ≤ length calls → IsForward calls → IsBeforeAll (get_or calls 0 d) (rest_of calls)
forward_first [] d l forward = absurd (omega arith)
forward_first (x ∷ xs) d l forward = subst (IsBeforeAll x) (sym (rest_is x xs)) (λ k e m. forward 0 (suc k) e (omega arith) (omega arith))

pub forward_rest : (calls : List Call) → 1 ≤ length calls → IsForward calls → IsForward (rest_of calls)
forward_rest [] l forward = absurd (omega arith)
forward_rest (x ∷ xs) l forward = subst IsForward (sym (rest_is x xs)) (λ i j e less m. forward (suc i) (suc j) e (omega arith) (omega arith))
