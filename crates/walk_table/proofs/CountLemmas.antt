-- That there are no more edges than those that were counted.
use Rattle.std.proofs.Common.{arith, ◌≡◌, ℕ, ◌-◌, ◌<◌, ◌≤◌, List, [], ◌∷◌, length, get_or, suc, zero, inl, inr, ap, ◌∙◌}
use Rattle.std.specs.List.{Contains}
use Rattle.std.proofs.lemmas.Bool.{cases_lt}
use Rattle.std.proofs.lemmas.List.{get_or_default, get_or_past}
use Rattle.std.proofs.lemmas.List.Elements.{Contains-get_or}
use Rattle.std.proofs.lemmas.List.Sums.{sum_by-cons}
use Rattle.std.proofs.lemmas.Option.{slice_get-get_or, slice_get_within}
use Rattle.otp_model.specs.declared.links.TransferRow.{TransferRow}
use Rattle.otp_model.specs.declared.timetable.Edge.{Edge}
use Rattle.otp_model.specs.declared.timetable.Profile.{Profile}
use Rattle.otp_model.specs.declared.timetable.Stop.{Stop}
use Rattle.otp_base.specs.EachAt.{EachAt}
use Rattle.walk_table.specs.Edges.{AreEdgesFrom, AreRising, edge_count, HasMoreEdges, IsEdge}

-- the elements of a rising list stand no earlier in another that has them
place_past : (xs ys : List Edge) → AreRising xs → AreRising ys → ((edge : Edge) → Contains xs edge → Contains ys edge) → (i : ℕ) (d : Edge) → i < length xs → (k : ℕ) × (i ≤ k) × (k < length ys) × (get_or ys k d ≡ get_or xs i d)
place_past xs ys rise_x rise_y sub zero d l =
    let c = sub (get_or xs 0 d) (Contains-get_or xs 0 d l) in
    (c.0, omega arith, c.1, get_or_default ys c.0 d (get_or xs 0 d) c.1 ∙ c.2)
place_past xs ys rise_x rise_y sub (suc i) d l =
    let before = place_past xs ys rise_x rise_y sub i d (omega arith) in
    let c = sub (get_or xs (suc i) d) (Contains-get_or xs (suc i) d l) in
    let here : get_or ys c.0 d ≡ get_or xs (suc i) d = get_or_default ys c.0 d (get_or xs (suc i) d) c.1 ∙ c.2 in
    let rise : (get_or xs i d).to < (get_or xs (suc i) d).to = rise_x i (suc i) d (omega arith) l in
    let was : (get_or ys before.0 d).to ≡ (get_or xs i d).to = ap (λ (e : Edge). e.to) before.3 in
    let is : (get_or ys c.0 d).to ≡ (get_or xs (suc i) d).to = ap (λ (e : Edge). e.to) here in
    let past : before.0 < c.0 = elim (cases_lt before.0 c.0) [
      | inl a ↦ a
      | inr b ↦ elim (cases_lt c.0 before.0) [
        | inl a ↦ (let fall = rise_y c.0 before.0 d a before.2 in absurd (omega (arith, fall, was, is, rise)))
        | inr e ↦ absurd (let one : c.0 ≡ before.0 = omega arith in let same : (get_or ys c.0 d).to ≡ (get_or ys before.0 d).to = ap (λ (k : ℕ). (get_or ys k d).to) one in omega (arith, same, was, is, rise))
      ]
    ] in
    (c.0, omega (arith, past, before.1), c.1, here)

rising_within : (xs ys : List Edge) → AreRising xs → AreRising ys → ((edge : Edge) → Contains xs edge → Contains ys edge) → length xs ≤ length ys
rising_within xs ys rise_x rise_y sub = elim (cases_lt (length ys) (length xs)) [
  | inl l ↦ (let p = place_past xs ys rise_x rise_y sub (length xs - 1) (record { to = 0; walk = 0; minimum = 0 }) (omega arith) in absurd (omega (arith, p.1, p.2)))
  | inr l ↦ l
]

count_within : (xs ys : List (List Edge)) → ((n : ℕ) → length (get_or xs n []) ≤ length (get_or ys n [])) → edge_count xs ≤ edge_count ys
count_within [] ys h = omega arith
count_within (x ∷ xs) [] h =
    let first = h 0 in
    let rest = count_within xs [] (λ n. h (suc n)) in
    omega (arith, sum_by-cons (λ (l : List Edge). length l) x xs, first, rest)
count_within (x ∷ xs) (y ∷ ys) h =
    let first = h 0 in
    let rest = count_within xs ys (λ n. h (suc n)) in
    omega (arith, sum_by-cons (λ (l : List Edge). length l) x xs, sum_by-cons (λ (l : List Edge). length l) y ys, first, rest)

-- no edge leaves a stop that is not there
none_past : (stops : List Stop) (rows : List TransferRow) (profile : Profile) (n : ℕ) (list : List Edge) → length stops ≤ n → ((edge : Edge) → Contains list edge → IsEdge stops rows profile n edge) → length list ≤ 0
none_past stops rows profile n list l are = elim (cases_lt 0 (length list)) [
  | inl some ↦ (let edge = are (get_or list 0 (record { to = 0; walk = 0; minimum = 0 })) (Contains-get_or list 0 (record { to = 0; walk = 0; minimum = 0 }) some) in
      let within = slice_get_within stops n edge.from edge.from_is in absurd (omega (arith, within)))
  | inr none ↦ none
]

pub no_more_edges : (limit : ℕ) (stops : List Stop) (rows : List TransferRow) (profile : Profile) (from : List (List Edge)) → EachAt (AreEdgesFrom stops rows profile) from → length from ≡ length stops → edge_count from ≤ limit → HasMoreEdges limit stops rows profile → ⊥
no_more_edges limit stops rows profile from each whole few more =
    let most = count_within more.from from within in
    absurd (omega (arith, more.more, most))
  where
    within : (n : ℕ) → length (get_or more.from n []) ≤ length (get_or from n [])
    within n = elim (cases_lt n (length more.from)) [
      | inl l ↦ (let at = slice_get-get_or more.from n [] l in
          elim (cases_lt n (length from)) [
            | inl m ↦ (let all = each n (get_or from n []) (slice_get-get_or from n [] m) in
                rising_within (get_or more.from n []) (get_or from n []) (more.rise n (get_or more.from n []) at) all.rises
                (λ edge c. all.has edge (more.are n (get_or more.from n []) at edge c)))
            | inr m ↦ (let none = none_past stops rows profile n (get_or more.from n []) (omega arith) (more.are n (get_or more.from n []) at) in omega (arith, none))
          ])
      | inr l ↦ rw (get_or_past more.from n [] l) (omega arith)
    ]
