-- The points of places, and what is reached from them.
use Rattle.std.proofs.Common.{arith, ◌≡◌, ◌≢◌, ◌↔◌, ℕ, ◌<◌, ◌≤◌, List, [], ◌∷◌, length, get_or, refl, sym, ap, subst, ◌∙◌, inl, inr, Some, None}
use Rattle.std.specs.List.{Contains, slice_get}
use Rattle.std.proofs.lemmas.Option.{slice_get_within, same_Some}
use Rattle.otp_model.specs.declared.timetable.Point.{Point}
use Rattle.otp_model.specs.declared.timetable.Stop.{Stop}
use Rattle.otp_model.specs.declared.timetable.Edges.{Edges}
use Rattle.otp_model.specs.declared.journey.Place.{Place}
use Rattle.otp_model.specs.declared.journey.Place.TheVariants.{Stop as AtStop, At as AtPoint}
use Rattle.otp_model.specs.Plane.{point_of, HasPoint, IsReached}
use Rattle.walk_table.specs.declared.reach.Reach.{Reach}
use Rattle.otp_base.specs.Adds.{Adds, IsOnly, FromSome, FromBelow}
use Rattle.otp_model.specs.declared.timetable.Profile.{Profile}
use Rattle.otp_base.proofs.AddsLemmas.{adds_as, Contains-adds}
use Rattle.walk_table.specs.Walks.{IsLeastWalk}
use Rattle.walk_table.specs.Reaches.{AreReached, IsChildPoint, IsReachAt, IsReachOf}

pub Contains-one : {X : Type 0} (a x : X) → Contains (a ∷ []) x ↔ (x ≡ a)
Contains-one {X} a x = (
  (λ k. let z : k.0 ≡ 0 = omega (arith, k.1) in sym (subst (λ (i : ℕ). get_or (a ∷ []) i x ≡ x) z k.2)),
  (λ e. (0, omega arith, sym e)),
)

-- the points of a coordinate
pub points_at : (stops : List Stop) (point : Point) (ps : List Point) → ps ≡ point ∷ [] → (p : Point) → Contains ps p ↔ HasPoint stops (AtPoint point.x point.y) p
points_at stops point ps e p = rw e (Contains-one point p)

-- the one point of a stop that is no station
pub own_point : (stops : List Stop) (named : ℕ) (place : Stop) (p : Point) → slice_get stops named ≡ Some place → place.kind ≢ 1 → HasPoint stops (AtStop named) p → p ≡ point_of place
own_point stops named place p e k h =
    let same : h.1.place ≡ place = same_Some h.1.place place (sym h.1.place_is ∙ e) in
    elim h.1.stands [
      | inl own ↦ h.2 ∙ ap point_of (own.1 ∙ same)
      | inr station ↦ absurd (k (subst (λ (s : Stop). s.kind ≡ 1) same station.0))
    ]

pub has_own : (stops : List Stop) (named : ℕ) (place : Stop) → slice_get stops named ≡ Some place → place.kind ≢ 1 → HasPoint stops (AtStop named) (point_of place)
has_own stops named place e k = (place, record { place = place; place_is = e; stands = inl (k, refl) }, refl)

-- the points of a station
pub child_of : (stops : List Stop) (named : ℕ) (place : Stop) (p : Point) → slice_get stops named ≡ Some place → place.kind ≡ 1 → HasPoint stops (AtStop named) p → FromSome (IsChildPoint named) stops p
child_of stops named place p e k h = elim h.1.stands [
  | inl own ↦ absurd (own.0 (subst (λ (s : Stop). s.kind ≡ 1) (same_Some place h.1.place (sym e ∙ h.1.place_is)) k))
  | inr station ↦ (h.0, station.1.on, (station.1.kind, station.1.parent, h.2))
]

pub has_child : (stops : List Stop) (named : ℕ) (place : Stop) (p : Point) → slice_get stops named ≡ Some place → place.kind ≡ 1 → FromSome (IsChildPoint named) stops p → HasPoint stops (AtStop named) p
has_child stops named place p e k h = (h.0, record { place = place; place_is = e; stands = inr (k, record { on = h.1; kind = h.2.0; parent = h.2.1 }) }, h.2.2)

-- the point of a stop that is no station
pub points_own : (stops : List Stop) (named : ℕ) (place : Stop) (ps : List Point) → slice_get stops named ≡ Some place → place.kind ≢ 1 → ps ≡ point_of place ∷ [] → (p : Point) → Contains ps p ↔ HasPoint stops (AtStop named) p
points_own stops named place ps e k is p = (
  (λ c. subst (λ (z : Point). HasPoint stops (AtStop named) z) (sym ((Contains-one (point_of place) p).0 (rw is at c))) (has_own stops named place e k)),
  (λ h. rw is ((Contains-one (point_of place) p).1 (own_point stops named place p e k h))),
)

-- the points of a station are those of its children
pub points_children : (stops : List Stop) (named : ℕ) (place : Stop) (ps : List Point) → slice_get stops named ≡ Some place → place.kind ≡ 1 → ((p : Point) → Contains ps p ↔ FromSome (IsChildPoint named) stops p) → (p : Point) → Contains ps p ↔ HasPoint stops (AtStop named) p
points_children stops named place ps e k is p = (
  (λ c. has_child stops named place p e k ((is p).0 c)),
  (λ h. (is p).1 (child_of stops named place p e k h)),
)

-- a stop that is reached at a place of the list is reached, and the other way round
pub reached_at : (edges : Edges) (place : Place) (points : List Point) (n : ℕ) (stop : Stop) (reach : Reach) → ((p : Point) → Contains points p ↔ HasPoint edges.stops place p) → slice_get edges.stops n ≡ Some stop → IsReachAt edges.profile points n stop reach ↔ ((reach.stop ≡ n) × IsReached edges place reach.stop reach.seconds)
reached_at edges place points n stop reach exact e = (there, back)
  where
    there : IsReachAt edges.profile points n stop reach → (reach.stop ≡ n) × IsReached edges place reach.stop reach.seconds
    there h =
        let w = h.2.0 in (
          h.1,
          record {
            at = stop;
            at_is = subst (λ (m : ℕ). slice_get edges.stops m ≡ Some stop) (sym h.1) e;
            kind = h.0;
            way = record { from = w.0; is_point = (exact w.0).0 w.1; within = w.2.0; walk = w.2.1 };
            least = λ other way. h.2.1 way.from other ((exact way.from).1 way.is_point) (way.within, way.walk);
          },
        )

    back : (reach.stop ≡ n) × IsReached edges place reach.stop reach.seconds → IsReachAt edges.profile points n stop reach
    back h =
        let r = h.1 in
        let same : r.at ≡ stop = same_Some r.at stop (sym (subst (λ (m : ℕ). slice_get edges.stops m ≡ Some r.at) h.0 r.at_is) ∙ e) in (
          subst (λ (s : Stop). s.kind ≡ 0) same r.kind,
          h.0,
          subst (λ (s : Stop). IsLeastWalk edges.profile points (point_of s) (Some reach.seconds)) same (
            (r.way.from, (exact r.way.from).1 r.way.is_point, (r.way.within, r.way.walk)),
            (λ p s c w. r.least s (record { from = p; is_point = (exact p).0 c; within = w.0; walk = w.1 })),
          ),
        )

pub reach_some : (profile : Profile) (points : List Point) (n : ℕ) (stop : Stop) (q : Point) (s : ℕ) → q ≡ point_of stop → stop.kind ≡ 0 → IsLeastWalk profile points q (Some s) → IsOnly (IsReachAt profile points n stop) (Some (record { stop = n; seconds = s }))
reach_some profile points n stop q s at_q k h = (
  (k, refl, own),
  (λ x g. let same : s ≡ x.seconds = (let a = own.1 g.2.0.0 x.seconds g.2.0.1 g.2.0.2 in let b = g.2.1 own.0.0 s own.0.1 own.0.2 in omega arith) in
      λ i. record { stop = (sym g.1) i; seconds = same i }),
)
  where
    own : IsLeastWalk profile points (point_of stop) (Some s)
    own = subst (λ (z : Point). IsLeastWalk profile points z (Some s)) at_q h

pub reach_none : (profile : Profile) (points : List Point) (n : ℕ) (stop : Stop) (q : Point) → q ≡ point_of stop → IsLeastWalk profile points q None → (x : Reach) → IsReachAt profile points n stop x → ⊥
reach_none profile points n stop q e h x g =
    let own = subst (λ (z : Point). IsLeastWalk profile points z None) e h in
    own g.2.0.0 x.seconds g.2.0.1 g.2.0.2

-- the stop with the number adds what is reached at it
pub adds_reach : (profile : Profile) (points : List Point) (stops : List Stop) (n : ℕ) (stop : Stop) (xs ys : List Reach) → slice_get stops n ≡ Some stop → Adds (IsReachAt profile points n stop) xs ys → Adds (IsReachOf profile points stops n) xs ys
adds_reach profile points stops n stop xs ys e = adds_as (IsReachAt profile points n stop) (IsReachOf profile points stops n) xs ys
    (λ x h. (stop, e, h))
    (λ x h. subst (λ (s : Stop). IsReachAt profile points n s x) (same_Some h.0 stop (sym h.1 ∙ e)) h.2)

-- all stops were gone through
pub reached_all : (edges : Edges) (place : Place) (points : List Point) (n : ℕ) (ys : List Reach) → ((p : Point) → Contains points p ↔ HasPoint edges.stops place p) → length edges.stops ≤ n → Adds (FromBelow (IsReachOf edges.profile points edges.stops) n) [] ys → AreReached edges place ys
reached_all edges place points n ys exact l a reach = (there, back)
  where
    set : Contains ys reach ↔ FromBelow (IsReachOf edges.profile points edges.stops) n reach
    set = Contains-adds (FromBelow (IsReachOf edges.profile points edges.stops) n) ys a reach

    there : Contains ys reach → IsReached edges place reach.stop reach.seconds
    there c = let h = set.0 c in ((reached_at edges place points h.0 h.2.0 reach exact h.2.1).0 h.2.2).1

    back : IsReached edges place reach.stop reach.seconds → Contains ys reach
    back r =
        let m : reach.stop < length edges.stops = slice_get_within edges.stops reach.stop r.at r.at_is in
        set.1 (reach.stop, omega arith, (r.at, r.at_is, (reached_at edges place points reach.stop r.at reach exact r.at_is).1 (refl, r)))
