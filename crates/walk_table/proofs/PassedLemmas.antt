-- Counting, and the points of the stops that a row means.
use Rattle.std.proofs.Common.{arith, ◌≡◌, ◌≢◌, ◌↔◌, ℕ, ◌*◌, ◌+◌, ◌<◌, ◌≤◌, List, [], ◌∷◌, ◌++◌, length, get_or, take, Some, false, inl, inr, refl, sym, ap, subst, ◌∙◌}
use Rattle.std.specs.List.{Any, Contains, slice_get}
use Rattle.std.proofs.lemmas.List.{take_more, take_all}
use Rattle.std.proofs.lemmas.Option.{get_or_from_slice_get, same_Some, slice_get-get_or, slice_get_within}
use Rattle.otp_model.specs.declared.links.TransferRow.{TransferRow}
use Rattle.otp_model.specs.declared.timetable.Point.{Point}
use Rattle.otp_model.specs.declared.timetable.Stop.{Stop}
use Rattle.otp_model.specs.Plane.{point_of, square_apart}
use Rattle.otp_base.specs.Adds.{FromSome}
use Rattle.otp_model.specs.Limits.{most_reach}
use Rattle.walk_table.specs.Edges.{AreNear}
use Rattle.walk_table.specs.Passed.{Counts, HasMeantPoint, HoldsSomewhere, AreBothFilled, IsNear, IsNearSome}
use Rattle.walk_table.specs.Reaches.{IsChildPoint}
use Rattle.walk_table.proofs.ReachLemmas.{Contains-one}
use Rattle.walk_table.proofs.RowLemmas.{any_of, of_any}

counts_push_other : {X : Type 0} (P : X → Type 0) (xs : List X) (x : X) (n : ℕ) → (P x → ⊥) → Counts P xs n → Counts P (xs ++ x ∷ []) n
counts_push_other P [] x n never h = inl (never, h)
counts_push_other P (z ∷ xs) x n never h = elim h [
  | inl a ↦ inl (a.0, counts_push_other P xs x n never a.1)
  | inr a ↦ inr (a.0, (a.1.0, a.1.1, counts_push_other P xs x a.1.0 never a.1.2))
]

counts_push_one : {X : Type 0} (P : X → Type 0) (xs : List X) (x : X) (n : ℕ) → P x → Counts P xs n → Counts P (xs ++ x ∷ []) (n + 1)
counts_push_one P [] x n p h = inr (p, (0, omega (arith, h), refl))
counts_push_one P (z ∷ xs) x n p h = elim h [
  | inl a ↦ inl (a.0, counts_push_one P xs x n p a.1)
  | inr a ↦ inr (a.0, (a.1.0 + 1, omega (arith, a.1.1), counts_push_one P xs x a.1.0 p a.1.2))
]

pub counts_other : {X : Type 0} (P : X → Type 0) (xs : List X) (i n : ℕ) (d : X) → i < length xs → (P (get_or xs i d) → ⊥) → Counts P (take i xs) n → Counts P (take (i + 1) xs) n
counts_other P xs i n d l never h = rw (take_more xs i d l) (counts_push_other P (take i xs) (get_or xs i d) n never h)

pub counts_one : {X : Type 0} (P : X → Type 0) (xs : List X) (i n : ℕ) (d : X) → i < length xs → P (get_or xs i d) → Counts P (take i xs) n → Counts P (take (i + 1) xs) (n + 1)
counts_one P xs i n d l p h = rw (take_more xs i d l) (counts_push_one P (take i xs) (get_or xs i d) n p h)

pub counts_all : {X : Type 0} (P : X → Type 0) (xs : List X) (i n : ℕ) → length xs ≤ i → Counts P (take i xs) n → Counts P xs n
counts_all P xs i n l h = rw (take_all i xs l) at h

-- the place of an element
place_of : {X : Type 0} (xs : List X) (x : X) → Contains xs x → (n : ℕ) × (slice_get xs n ≡ Some x)
place_of xs x c = (c.0, slice_get-get_or xs c.0 x c.1 ∙ ap Some c.2)

at_place : {X : Type 0} (xs : List X) (n : ℕ) (x : X) → slice_get xs n ≡ Some x → Contains xs x
at_place xs n x e = (n, slice_get_within xs n x e, get_or_from_slice_get xs n x x e)

-- the point of a stop or platform by itself
pub meant_own : (stops : List Stop) (named : ℕ) (place : Stop) (points : List Point) → slice_get stops named ≡ Some place → place.kind ≡ 0 → points ≡ point_of place ∷ [] → (p : Point) → Contains points p ↔ HasMeantPoint stops (Some named) p
meant_own stops named place points e k is p = (
  (λ c. record { n = named; stop = place; stop_is = e; meant = (k, inl refl); point_is = (Contains-one (point_of place) p).0 (rw is at c) }),
  (λ h. rw is ((Contains-one (point_of place) p).1 (elim h.meant.1 [
    | inl self ↦ h.point_is ∙ ap point_of (same_Some h.stop place (sym h.stop_is ∙ subst (λ (n : ℕ). slice_get stops n ≡ Some place) self e))
    | inr child ↦ absurd (let same : place ≡ child.1.0 = same_Some place child.1.0 (sym e ∙ child.1.1) in
        let one : place.kind ≡ 1 = ap (λ (s : Stop). s.kind) same ∙ child.1.2 in omega arith)
  ]))),
)

-- the points of a station's children
pub meant_children : (stops : List Stop) (named : ℕ) (place : Stop) (points : List Point) → slice_get stops named ≡ Some place → place.kind ≡ 1 → ((p : Point) → Contains points p ↔ FromSome (IsChildPoint named) stops p) → (p : Point) → Contains points p ↔ HasMeantPoint stops (Some named) p
meant_children stops named place points e k is p = (
  (λ c. let h = (is p).0 c in let at = place_of stops h.0 h.1 in
      record { n = at.0; stop = h.0; stop_is = at.1; meant = (h.2.0, inr (h.2.1, (place, e, k))); point_is = h.2.2 }),
  (λ h. (is p).1 (elim h.meant.1 [
    | inl self ↦ absurd (let same : h.stop ≡ place = same_Some h.stop place (sym h.stop_is ∙ subst (λ (n : ℕ). slice_get stops n ≡ Some place) self e) in
        let none : place.kind ≡ 0 = ap (λ (s : Stop). s.kind) (sym same) ∙ h.meant.0 in omega arith)
    | inr child ↦ (h.stop, at_place stops h.n h.stop h.stop_is, (h.meant.0, child.0, h.point_is))
  ])),
)

-- no stop is meant by one of another kind
pub meant_other : (stops : List Stop) (named : ℕ) (place : Stop) (p : Point) → slice_get stops named ≡ Some place → place.kind ≢ 0 → place.kind ≢ 1 → HasMeantPoint stops (Some named) p → ⊥
meant_other stops named place p e k l h = elim h.meant.1 [
  | inl self ↦ (let same : h.stop ≡ place = same_Some h.stop place (sym h.stop_is ∙ subst (λ (n : ℕ). slice_get stops n ≡ Some place) self e) in
      k (ap (λ (s : Stop). s.kind) (sym same) ∙ h.meant.0))
  | inr child ↦ l (ap (λ (s : Stop). s.kind) (same_Some place child.1.0 (sym e ∙ child.1.1)) ∙ child.1.2)
]

-- no stop is meant by a number past the list
pub meant_past : (stops : List Stop) (named : ℕ) (p : Point) → length stops ≤ named → HasMeantPoint stops (Some named) p → ⊥
meant_past stops named p l h = elim h.meant.1 [
  | inl self ↦ (let m = slice_get_within stops h.n h.stop h.stop_is in absurd (omega arith))
  | inr child ↦ (let m = slice_get_within stops named child.1.0 child.1.1 in absurd (omega arith))
]

-- the row holds for some pair where some two points are near
pub somewhere_near : (stops : List Stop) (row : TransferRow) (from to : List Point) → row.narrow ≡ false → row.kind ≤ 3 → row.kind ≢ 3 → ((p : Point) → Contains from p ↔ HasMeantPoint stops row.from p) → ((p : Point) → Contains to p ↔ HasMeantPoint stops row.to p) → Any (IsNearSome to) from ↔ HoldsSomewhere stops row
somewhere_near stops row from to wide kind type from_is to_is = (there, back)
  where
    there : Any (IsNearSome to) from → HoldsSomewhere stops row
    there a =
        let p = of_any (IsNearSome to) from a in
        let q = of_any (IsNear p.0) to p.2 in
        let f = (from_is p.0).0 p.1 in
        let t = (to_is q.0).0 q.1 in
        let near : AreNear f.stop t.stop = subst (λ (b : Point). square_apart (point_of f.stop) b ≤ most_reach * most_reach) t.point_is (subst (λ (b : Point). square_apart b q.0 ≤ most_reach * most_reach) f.point_is q.2) in
        record { p = f.n; from = f.stop; from_is = f.stop_is; q = t.n; to = t.stop; to_is = t.stop_is; holds = record { wide = wide; kind = kind; leaves = f.meant; arrives = t.meant; near = inr near } }

    back : HoldsSomewhere stops row → Any (IsNearSome to) from
    back h =
        let f = (from_is (point_of h.from)).1 (record { n = h.p; stop = h.from; stop_is = h.from_is; meant = h.holds.leaves; point_is = refl }) in
        let t = (to_is (point_of h.to)).1 (record { n = h.q; stop = h.to; stop_is = h.to_is; meant = h.holds.arrives; point_is = refl }) in
        let near : AreNear h.from h.to = elim h.holds.near [ inl three ↦ absurd (type three) | inr n ↦ n ] in
        any_of (IsNearSome to) from (point_of h.from) f (any_of (IsNear (point_of h.from)) to (point_of h.to) t near)

-- a row of type 3 holds for some pair where both sides have points
pub somewhere_both : (stops : List Stop) (row : TransferRow) (from to : List Point) → row.narrow ≡ false → row.kind ≡ 3 → ((p : Point) → Contains from p ↔ HasMeantPoint stops row.from p) → ((p : Point) → Contains to p ↔ HasMeantPoint stops row.to p) → AreBothFilled from to ↔ HoldsSomewhere stops row
somewhere_both stops row from to wide type from_is to_is = (there from to from_is to_is, back)
  where
    there : (from to : List Point) → ((p : Point) → Contains from p ↔ HasMeantPoint stops row.from p) → ((p : Point) → Contains to p ↔ HasMeantPoint stops row.to p) → (0 < length from) × (0 < length to) → HoldsSomewhere stops row
    there [] to from_is to_is l = absurd (omega (arith, l.0))
    there (p ∷ ps) [] from_is to_is l = absurd (omega (arith, l.1))
    there (p ∷ ps) (q ∷ qs) from_is to_is l =
        let f = (from_is p).0 (0, l.0, refl) in
        let t = (to_is q).0 (0, l.1, refl) in
        record { p = f.n; from = f.stop; from_is = f.stop_is; q = t.n; to = t.stop; to_is = t.stop_is; holds = record { wide = wide; kind = omega arith; leaves = f.meant; arrives = t.meant; near = inl type } }

    back : HoldsSomewhere stops row → (0 < length from) × (0 < length to)
    back h =
        let f = (from_is (point_of h.from)).1 (record { n = h.p; stop = h.from; stop_is = h.from_is; meant = h.holds.leaves; point_is = refl }) in
        let t = (to_is (point_of h.to)).1 (record { n = h.q; stop = h.to; stop_is = h.to_is; meant = h.holds.arrives; point_is = refl }) in
        (omega (arith, f.1), omega (arith, t.1))
