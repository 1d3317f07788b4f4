-- The edges from a stop.
use Rattle.std.proofs.Common.{arith, ◌≡◌, ◌↔◌, ℕ, ℤ, pos, ◌-ℤ◌, unsigned_abs, ◌*◌, ◌+◌, ◌-◌, ◌<◌, ◌≤◌, List, [], ◌∷◌, ◌++◌, length, get_or, take, Option, Some, None, ◌⊎◌, inl, inr, refl, sym, ap, subst, ◌∙◌}
use Rattle.std.specs.List.{All, Any, Contains, slice_get}
use Rattle.std.specs.List.Sorted.{IsStrictlyIncreasing}
use Rattle.std.specs.Option.{IsSome}
use Rattle.std.proofs.lemmas.Bool.{cases_lt}
use Rattle.std.proofs.lemmas.Int.{ints}
use Rattle.std.proofs.lemmas.List.{get_or_default, get_or_past, length_push}
use Rattle.std.proofs.lemmas.List.Sums.{sum_by_push}
use Rattle.std.proofs.lemmas.Option.{same_Some}
use Rattle.otp_model.specs.declared.links.TransferRow.{TransferRow}
use Rattle.otp_model.specs.declared.timetable.Edge.{Edge}
use Rattle.otp_model.specs.declared.timetable.Point.{Point}
use Rattle.otp_model.specs.declared.timetable.Profile.{Profile}
use Rattle.otp_model.specs.declared.timetable.Stop.{Stop}
use Rattle.std.specs.Int.{div_ceil}
use Rattle.otp_model.specs.Plane.{IsDistance, point_of, square_apart}
use Rattle.otp_base.specs.Adds.{Adds, FromSome, IsOnly}
use Rattle.otp_base.proofs.AddsLemmas.{adds_as, adds_more_some, adds_option, adds_some_all, Contains-adds}
use Rattle.otp_model.specs.Limits.{most_edges}
use Rattle.otp_model.specs.Limits.{most_reach}
use Rattle.walk_table.specs.declared.fault.EdgesFault.{EdgesFault}
use Rattle.walk_table.specs.declared.fault.EdgesFault.TheVariants.{TooMany, Memory}
use Rattle.walk_table.specs.Faults.{HasMoreFrom, IsCause, IsCauseFrom, IsOverfull}
use Rattle.otp_base.specs.EachAt.{EachAt}
use Rattle.walk_table.specs.Edges.{AreEdgesFrom, AreNear, AreRising, edge_count, Holds, HasMinimum, IsEdge, IsEdgeUnder, IsGreatest}
use Rattle.walk_table.specs.Near.{AreCandidates}
use Rattle.walk_table.specs.Rows.{Arrives, BarsWayTo, IsAmong, IsEdgeTo, IsGiven, IsLeaving, IsMinimum}
use Rattle.walk_table.specs.Walks.{IsWalkOver}
use Rattle.otp_base.proofs.EachAtLemmas.{each_push, each_weaker}
use Rattle.walk_table.proofs.RisingLemmas.{IsRisingTo, rising_more}
use Rattle.walk_table.proofs.RowLemmas.{any_of, greatest_as, greatest_same, of_any}
use Rattle.walk_table.proofs.WalkLemmas.{same_distance}

-- the edge to the stop with this number
abbrev pub IsEdgeAt : List Stop → List TransferRow → Profile → ℕ → Stop → ℕ → Edge → Type 0
IsEdgeAt stops rows profile p from n edge = (to : Stop) × (slice_get stops n ≡ Some to) × IsEdgeTo stops rows profile p from n to edge

-- the same rows said in another way
under_as : (R S : TransferRow → Type 0) (profile : Profile) (p : ℕ) (from to : Stop) (edge : Edge) → ((row : TransferRow) → R row → S row) → ((row : TransferRow) → S row → R row) → IsEdgeUnder R profile p from to edge → IsEdgeUnder S profile p from to edge
under_as R S profile p from to edge f g h = record {
  given = elim h.given [ inl e ↦ inl e | inr w ↦ elim w [ inl r ↦ inr (inl r) | inr s ↦ inr (inr (s.0, f s.0 s.1)) ] ];
  kept = λ row s. h.kept row (g row s);
  walk = h.walk;
  minimum = greatest_as (HasMinimum R) (HasMinimum S) edge.minimum (λ m x. (x.0, f x.0 x.1, x.2)) (λ m x. (x.0, g x.0 x.1, x.2)) h.minimum;
}

-- the rows that were collected are those that hold for the two
held : (stops : List Stop) (transfers rows : List TransferRow) (p : ℕ) (from : Stop) (q : ℕ) (to : Stop) (row : TransferRow) → ((row : TransferRow) → Contains rows row ↔ FromSome (IsLeaving stops p from) transfers row) → IsAmong stops rows from q to row → Contains transfers row × Holds stops p from q to row
held stops transfers rows p from q to row exact h =
    let g = (exact row).0 h.0 in
    subst (λ (r : TransferRow). Contains transfers r × Holds stops p from q to r) g.2.0 (
      g.1,
      record {
        wide = g.2.1.0;
        kind = g.2.1.1;
        leaves = g.2.1.2;
        arrives = subst (λ (r : TransferRow). Arrives stops q to r) (sym g.2.0) h.1;
        near = subst (λ (r : TransferRow). (r.kind ≡ 3) ⊎ AreNear from to) (sym g.2.0) h.2;
      },
    )

among : (stops : List Stop) (transfers rows : List TransferRow) (p : ℕ) (from : Stop) (q : ℕ) (to : Stop) (row : TransferRow) → ((row : TransferRow) → Contains rows row ↔ FromSome (IsLeaving stops p from) transfers row) → Contains transfers row × Holds stops p from q to row → IsAmong stops rows from q to row
among stops transfers rows p from q to row exact h =
    ((exact row).1 (row, h.0, (refl, (h.1.wide, h.1.kind, h.1.leaves))), h.1.arrives, h.1.near)

-- an edge to a stop of the list is an edge from the stop, and the other way round
pub edge_of : (stops : List Stop) (transfers rows : List TransferRow) (profile : Profile) (p : ℕ) (from : Stop) (n : ℕ) (edge : Edge) → slice_get stops p ≡ Some from → ((row : TransferRow) → Contains rows row ↔ FromSome (IsLeaving stops p from) transfers row) → IsEdgeAt stops rows profile p from n edge → IsEdge stops transfers profile p edge
edge_of stops transfers rows profile p from n edge e exact h =
    let at : n ≡ edge.to = sym h.2.0 in
    record {
      from = from;
      from_is = e;
      to = h.0;
      to_is = subst (λ (k : ℕ). slice_get stops k ≡ Some h.0) at h.1;
      under = subst (λ (k : ℕ). IsEdgeUnder (λ row. Contains transfers row × Holds stops p from k h.0 row) profile p from h.0 edge) at
          (under_as (IsAmong stops rows from n h.0) (λ row. Contains transfers row × Holds stops p from n h.0 row) profile p from h.0 edge
          (λ row. held stops transfers rows p from n h.0 row exact) (λ row. among stops transfers rows p from n h.0 row exact) h.2.1);
    }

pub of_edge : (stops : List Stop) (transfers rows : List TransferRow) (profile : Profile) (p : ℕ) (from : Stop) (edge : Edge) → slice_get stops p ≡ Some from → ((row : TransferRow) → Contains rows row ↔ FromSome (IsLeaving stops p from) transfers row) → IsEdge stops transfers profile p edge → IsEdgeAt stops rows profile p from edge.to edge
of_edge stops transfers rows profile p from edge e exact h =
    let same : h.from ≡ from = same_Some h.from from (sym h.from_is ∙ e) in
    let under = subst (λ (f : Stop). IsEdgeUnder (λ row. Contains transfers row × Holds stops p f edge.to h.to row) profile p f h.to edge) same h.under in (
      h.to,
      h.to_is,
      (
        refl,
        under_as (λ row. Contains transfers row × Holds stops p from edge.to h.to row) (IsAmong stops rows from edge.to h.to) profile p from h.to edge
            (λ row. among stops transfers rows p from edge.to h.to row exact) (λ row. held stops transfers rows p from edge.to h.to row exact) under,
      ),
    )

minimum_there : (stops : List Stop) (rows : List TransferRow) (from : Stop) (q : ℕ) (to : Stop) → AreNear from to → (m : ℕ) → FromSome (IsMinimum stops q to) rows m → HasMinimum (IsAmong stops rows from q to) m
minimum_there stops rows from q to near m h = (h.0, (h.1, h.2.0, inr near), h.2.1)

minimum_back : (stops : List Stop) (rows : List TransferRow) (from : Stop) (q : ℕ) (to : Stop) (m : ℕ) → HasMinimum (IsAmong stops rows from q to) m → FromSome (IsMinimum stops q to) rows m
minimum_back stops rows from q to m h = (h.0, h.1.0, (h.1.1, h.2))

none_apart : (z : ℤ) → unsigned_abs (z -ℤ z) ≡ 0
none_apart z = let same : (z -ℤ z) ≡ pos 0 = omega (arith, ints) in ap unsigned_abs same

alike : (a b : Stop) → a ≡ b → square_apart (point_of a) (point_of b) ≡ 0
alike a b e =
    let x : unsigned_abs (a.x -ℤ b.x) ≡ 0 = ap (λ (s : Stop). unsigned_abs (a.x -ℤ s.x)) (sym e) ∙ none_apart a.x in
    let y : unsigned_abs (a.y -ℤ b.y) ≡ 0 = ap (λ (s : Stop). unsigned_abs (a.y -ℤ s.y)) (sym e) ∙ none_apart a.y in
    rw (x, y) refl

greater_square : (a b : ℕ) → a ≤ b → a * a ≤ b * b
greater_square a b le = grind arith

-- beyond the farthest that rows reach there is no edge
pub edge_far : (stops : List Stop) (rows : List TransferRow) (profile : Profile) (p : ℕ) (from : Stop) (q : ℕ) (to : Stop) (at_from at_to : Point) → at_from ≡ point_of from → at_to ≡ point_of to
    → slice_get stops p ≡ Some from → slice_get stops q ≡ Some to → profile.reach ≤ most_reach → most_reach * most_reach < square_apart at_from at_to → (edge : Edge) → IsEdgeTo stops rows profile p from q to edge → ⊥
edge_far stops rows profile p from q to at_from at_to is_from is_to f t reach far edge (at, under) =
    let apart : most_reach * most_reach < square_apart (point_of from) (point_of to) = rw (is_from, is_to) at far in
    elim under.given [
      | inl own ↦
          let same : from ≡ to = same_Some from to (sym f ∙ (ap (slice_get stops) (own ∙ at) ∙ t)) in
          omega (arith, apart, alike from to same)
      | inr more ↦ elim more [
        | inl near ↦ (let wide = greater_square profile.reach most_reach reach in omega (arith, apart, near.2, wide))
        | inr row ↦ elim row.1.2 [
          | inl bars ↦ under.kept row.0 row.1 bars
          | inr near ↦ omega (arith, apart, near)
        ]
      ]
    ]

pub edge_some : (stops : List Stop) (rows : List TransferRow) (profile : Profile) (p : ℕ) (from : Stop) (q : ℕ) (to : Stop) (at_from at_to : Point) (square walk minimum : ℕ) → at_from ≡ point_of from → at_to ≡ point_of to → square ≡ square_apart at_from at_to → square ≤ most_reach * most_reach → (Any (BarsWayTo stops q to) rows → ⊥) → IsGiven stops rows profile p from q to → IsWalkOver profile.speed square walk → IsGreatest (FromSome (IsMinimum stops q to) rows) minimum → IsOnly (IsEdgeTo stops rows profile p from q to) (Some (record { to = q; walk = walk; minimum = minimum }))
edge_some stops rows profile p from q to at_from at_to square walk minimum is_from is_to is_square close open_ given over least = ((refl, under), same)
  where
    apart : square ≡ square_apart (point_of from) (point_of to)
    apart = subst (λ (a : Point). square ≡ square_apart a (point_of to)) is_from (subst (λ (b : Point). square ≡ square_apart at_from b) is_to is_square)

    near : AreNear from to
    near = omega (arith, apart)

    under : IsEdgeUnder (IsAmong stops rows from q to) profile p from to (record { to = q; walk = walk; minimum = minimum })
    under = record {
      given = elim given [ inl e ↦ inl e | inr w ↦ elim w [ inl r ↦ inr (inl r) | inr a ↦ (let row = of_any (Arrives stops q to) rows a in inr (inr (row.0, (row.1, row.2, inr near)))) ] ];
      kept = λ row r k. open_ (any_of (BarsWayTo stops q to) rows row r.0 (k, r.1));
      walk = record { distance = over.0; is_distance = subst (λ (n : ℕ). IsDistance n over.0) apart over.1; seconds_are = over.2 };
      minimum = greatest_as (FromSome (IsMinimum stops q to) rows) (HasMinimum (IsAmong stops rows from q to)) minimum (minimum_there stops rows from q to near) (minimum_back stops rows from q to) least;
    }

    same : (x : Edge) → IsEdgeTo stops rows profile p from q to x → record { to = q; walk = walk; minimum = minimum } ≡ x
    same x h =
        let to_is : q ≡ x.to = sym h.0 in
        let walk_is : walk ≡ x.walk = under.walk.seconds_are ∙ ap (λ (d : ℕ). div_ceil d profile.speed) (same_distance (square_apart (point_of from) (point_of to)) under.walk.distance h.1.walk.distance under.walk.is_distance h.1.walk.is_distance) ∙ sym h.1.walk.seconds_are in
        let minimum_is : minimum ≡ x.minimum = greatest_same (HasMinimum (IsAmong stops rows from q to)) minimum x.minimum under.minimum h.1.minimum in
        λ i. record { to = to_is i; walk = walk_is i; minimum = minimum_is i }

-- the stop with the number adds the edge to it
pub adds_edge : (stops : List Stop) (rows : List TransferRow) (profile : Profile) (p : ℕ) (from : Stop) (n : ℕ) (to : Stop) (xs ys : List Edge) → slice_get stops n ≡ Some to → Adds (IsEdgeTo stops rows profile p from n to) xs ys → Adds (IsEdgeAt stops rows profile p from n) xs ys
adds_edge stops rows profile p from n to xs ys e = adds_as (IsEdgeTo stops rows profile p from n to) (IsEdgeAt stops rows profile p from n) xs ys
    (λ x h. (to, e, h))
    (λ x h. subst (λ (s : Stop). IsEdgeTo stops rows profile p from n s x) (same_Some h.0 to (sym h.1 ∙ e)) h.2)

-- what was added is edges from the stop
edges_part : (stops : List Stop) (transfers rows : List TransferRow) (profile : Profile) (p : ℕ) (from : Stop) (numbers : List ℕ) (list : List Edge) → slice_get stops p ≡ Some from → ((row : TransferRow) → Contains rows row ↔ FromSome (IsLeaving stops p from) transfers row) → Adds (FromSome (IsEdgeAt stops rows profile p from) numbers) [] list → (edge : Edge) → Contains list edge → IsEdge stops transfers profile p edge
edges_part stops transfers rows profile p from numbers list e exact h edge c =
    let g = (Contains-adds (FromSome (IsEdgeAt stops rows profile p from) numbers) list h edge).0 c in
    edge_of stops transfers rows profile p from g.0 edge e exact g.2

-- the place of a candidate stands below the next, and the last below the count of stops
abbrev pub next_at : List Stop → List ℕ → ℕ → ℕ
next_at stops numbers i = get_or numbers i (length stops)

pub next_rises : (stops : List Stop) (numbers : List ℕ) (i n : ℕ) → IsStrictlyIncreasing numbers → All (λ n. n < length stops) numbers → i < length numbers → n ≡ get_or numbers i n → (n ≡ next_at stops numbers i) × (n < next_at stops numbers (i + 1)) × (n < length stops)
next_rises stops numbers i n rise within less is =
    let here : n ≡ next_at stops numbers i = is ∙ get_or_default numbers i n (length stops) less in (
      here,
      elim (cases_lt (i + 1) (length numbers)) [
        | inl more ↦
            let one : n ≡ get_or numbers i 0 = is ∙ get_or_default numbers i n 0 less in
            let next : get_or numbers (i + 1) 0 ≡ next_at stops numbers (i + 1) = get_or_default numbers (i + 1) 0 (length stops) more in
            omega (arith, rise i more, one, next)
        | inr end ↦
            let last : next_at stops numbers (i + 1) ≡ length stops = get_or_past numbers (i + 1) (length stops) end in
            omega (arith, within i n less, is, last)
      ],
      omega (arith, within i n less, is),
    )

-- all candidates were gone through
pub edges_whole : (stops : List Stop) (transfers rows : List TransferRow) (profile : Profile) (p : ℕ) (from : Stop) (numbers : List ℕ) (i bound : ℕ) (list : List Edge) → slice_get stops p ≡ Some from → ((row : TransferRow) → Contains rows row ↔ FromSome (IsLeaving stops p from) transfers row) → AreCandidates stops rows profile p from numbers → length numbers ≤ i → Adds (FromSome (IsEdgeAt stops rows profile p from) (take i numbers)) [] list → IsRisingTo (λ edge. edge.to) bound list → AreEdgesFrom stops transfers profile p list
edges_whole stops transfers rows profile p from numbers i bound list e exact candidates l h rising =
    let all : Adds (FromSome (IsEdgeAt stops rows profile p from) numbers) [] list = adds_some_all (IsEdgeAt stops rows profile p from) numbers i [] list l h in
    record {
      rises = rising.rises;
      has = λ edge is.
          let at = of_edge stops transfers rows profile p from edge e exact is in
          (Contains-adds (FromSome (IsEdgeAt stops rows profile p from) numbers) list all edge).1 (edge.to, candidates.has edge.to at.0 edge at.1 at.2, at);
      only = edges_part stops transfers rows profile p from numbers list e exact all;
    }

-- one edge more than there is room for
edges_over : (stops : List Stop) (transfers rows : List TransferRow) (profile : Profile) (p : ℕ) (from : Stop) (numbers : List ℕ) (i n : ℕ) (to : Stop) (room : ℕ) (list : List Edge) (o : Option Edge) → slice_get stops p ≡ Some from → ((row : TransferRow) → Contains rows row ↔ FromSome (IsLeaving stops p from) transfers row) → slice_get stops n ≡ Some to → i < length numbers → n ≡ get_or numbers i n → Adds (FromSome (IsEdgeAt stops rows profile p from) (take i numbers)) [] list → IsRisingTo (λ edge. edge.to) n list → IsOnly (IsEdgeTo stops rows profile p from n to) o → IsSome o → room ≤ length list → HasMoreFrom room stops transfers profile p
edges_over stops transfers rows profile p from numbers i n to room list None e exact at less is h rising only some full = absurd (cc some)
edges_over stops transfers rows profile p from numbers i n to room list (Some edge) e exact at less is h rising only some full = (
  list ++ edge ∷ [],
  (rising_more (λ (x : Edge). x.to) n (IsEdgeTo stops rows profile p from n to) list (list ++ edge ∷ []) (Some edge) (λ x g. g.0) refl only rising).rises,
  edges_part stops transfers rows profile p from (take (i + 1) numbers) (list ++ edge ∷ []) e exact
      (adds_more_some (IsEdgeAt stops rows profile p from) numbers i n [] list (list ++ edge ∷ []) less is h
      (adds_edge stops rows profile p from n to list (list ++ edge ∷ []) at (adds_option (IsEdgeTo stops rows profile p from n to) list (list ++ edge ∷ []) (Some edge) refl only))),
  omega (arith, length_push list edge),
)

pub cause_from : (stops : List Stop) (transfers rows : List TransferRow) (profile : Profile) (p : ℕ) (from : Stop) (numbers : List ℕ) (i n : ℕ) (to : Stop) (room : ℕ) (list : List Edge) (o : Option Edge) (fault : EdgesFault) → slice_get stops p ≡ Some from → ((row : TransferRow) → Contains rows row ↔ FromSome (IsLeaving stops p from) transfers row) → slice_get stops n ≡ Some to → i < length numbers → n ≡ get_or numbers i n → Adds (FromSome (IsEdgeAt stops rows profile p from) (take i numbers)) [] list → IsRisingTo (λ edge. edge.to) n list → IsOnly (IsEdgeTo stops rows profile p from n to) o → IsOverfull list o room fault → IsCauseFrom stops transfers profile p room fault
cause_from stops transfers rows profile p from numbers i n to room list o TooMany e exact at less is h rising only full = edges_over stops transfers rows profile p from numbers i n to room list o e exact at less is h rising only full.0 full.1
cause_from stops transfers rows profile p from numbers i n to room list o Memory e exact at less is h rising only full = tt

-- the lists so far and one that there is no room for
pub cause_all : (stops : List Stop) (transfers : List TransferRow) (profile : Profile) (from : List (List Edge)) (p room : ℕ) (fault : EdgesFault) → EachAt (AreEdgesFrom stops transfers profile) from → length from ≡ p → edge_count from + room ≡ most_edges → IsCauseFrom stops transfers profile p room fault → IsCause stops transfers profile fault
cause_all stops transfers profile from p room TooMany each whole sum over = record {
  from = from ++ over.0 ∷ [];
  rise = each_push (λ n list. AreRising list) from over.0 (each_weaker (AreEdgesFrom stops transfers profile) (λ n list. AreRising list) from (λ n list h. h.rises) each) over.1;
  are = each_push (λ n list. (edge : Edge) → Contains list edge → IsEdge stops transfers profile n edge) from over.0
      (each_weaker (AreEdgesFrom stops transfers profile) (λ n list. (edge : Edge) → Contains list edge → IsEdge stops transfers profile n edge) from (λ n list h. h.only) each)
      (subst (λ (k : ℕ). (edge : Edge) → Contains over.0 edge → IsEdge stops transfers profile k edge) (sym whole) over.2);
  more = omega (arith, sum_by_push (λ (list : List Edge). length list) from over.0, over.3);
}
cause_all stops transfers profile from p room Memory each whole sum over = tt

-- the lists so far and the next one
pub lists_more : (stops : List Stop) (transfers : List TransferRow) (profile : Profile) (from longer : List (List Edge)) (list : List Edge) (p room : ℕ) → longer ≡ from ++ list ∷ [] → EachAt (AreEdgesFrom stops transfers profile) from → length from ≡ p → edge_count from + room ≡ most_edges → AreEdgesFrom stops transfers profile p list → length list ≤ room → EachAt (AreEdgesFrom stops transfers profile) longer × (length longer ≡ p + 1) × (edge_count longer + (room - length list) ≡ most_edges)
lists_more stops transfers profile from longer list p room e each whole sum new few =
    rw e (
      each_push (AreEdgesFrom stops transfers profile) from list each (subst (λ (k : ℕ). AreEdgesFrom stops transfers profile k list) (sym whole) new),
      omega (arith, length_push from list),
      omega (arith, sum_by_push (λ (l : List Edge). length l) from list),
    )
