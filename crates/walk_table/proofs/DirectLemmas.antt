-- The least of some numbers, and walks from one place to another.
use Rattle.std.proofs.Common.{arith, ◌≡◌, ◌≢◌, ℕ, ◌+◌, ◌<◌, ◌≤◌, List, [], ◌∷◌, ◌++◌, length, take, get_or, Option, Some, None, ◌⊎◌, inl, inr, refl, sym, ap, subst, ◌∙◌}
use Rattle.std.specs.List.{slice_get}
use Rattle.std.proofs.lemmas.Bool.{cases_lt}
use Rattle.std.proofs.lemmas.List.{take_more, take_all}
use Rattle.otp_model.specs.declared.timetable.Edges.{Edges}
use Rattle.otp_model.specs.declared.timetable.Point.{Point}
use Rattle.otp_model.specs.declared.timetable.Stop.{Stop}
use Rattle.otp_model.specs.declared.journey.Place.{Place}
use Rattle.otp_model.specs.declared.journey.Place.TheVariants.{Stop as AtStop, At as AtPoint}
use Rattle.otp_model.specs.Plane.{point_of}
use Rattle.otp_base.specs.Adds.{FromSome, IsOnly}
use Rattle.walk_table.specs.Direct.{IsDirectFromChild, IsDirectWalk, IsLeast, IsWalkInto, IsWalkIntoChild}
use Rattle.walk_table.specs.Walks.{IsWalkTo, lesser}
use Rattle.walk_table.proofs.ReachLemmas.{child_of, has_child, has_own, own_point}
use Rattle.walk_table.proofs.RowLemmas.{some_joined, some_split}

pub least_only : (P : ℕ → Type 0) (o : Option ℕ) → IsOnly P o → IsLeast P o
least_only P None h = h
least_only P (Some a) h = (h.0, λ n p. let same = h.1 n p in omega arith)

-- the same numbers said in another way
pub least_as : (P Q : ℕ → Type 0) (o : Option ℕ) → ((n : ℕ) → P n → Q n) → ((n : ℕ) → Q n → P n) → IsLeast P o → IsLeast Q o
least_as P Q None f g h = λ n q. h n (g n q)
least_as P Q (Some a) f g h = (f a h.0, λ n q. h.1 n (g n q))

least_join : (P Q : ℕ → Type 0) (a b : Option ℕ) → IsLeast P a → IsLeast Q b → IsLeast (λ n. P n ⊎ Q n) (lesser a b)
least_join P Q None None h k = λ n s. elim s [ inl p ↦ h n p | inr q ↦ k n q ]
least_join P Q None (Some b) h k = (inr k.0, λ n s. elim s [ inl p ↦ absurd (h n p) | inr q ↦ k.1 n q ])
least_join P Q (Some a) None h k = (inl h.0, λ n s. elim s [ inl p ↦ h.1 n p | inr q ↦ absurd (k n q) ])
least_join P Q (Some a) (Some b) h k = (
  elim (cases_lt a b) [ inl l ↦ inl (subst P (omega arith) h.0) | inr l ↦ inr (subst Q (omega arith) k.0) ],
  (λ n s. elim s [ inl p ↦ (let z = h.1 n p in omega arith) | inr q ↦ (let z = k.1 n q in omega arith) ]),
)

-- one element more
pub least_next : {A : Type 0} (R : A → ℕ → Type 0) (xs : List A) (i : ℕ) (x : A) (a b r : Option ℕ) → i < length xs → x ≡ get_or xs i x → IsLeast (FromSome R (take i xs)) a → IsLeast (R x) b → r ≡ lesser a b → IsLeast (FromSome R (take (i + 1) xs)) r
least_next {A} R xs i x a b r l e h k is =
    let more : take (i + 1) xs ≡ take i xs ++ x ∷ [] = take_more xs i x l ∙ ap (λ z. take i xs ++ z ∷ []) (sym e) in
    rw (more, is) (least_as (λ n. FromSome R (take i xs) n ⊎ R x n) (FromSome R (take i xs ++ x ∷ [])) (lesser a b)
    (some_joined R (take i xs) x) (some_split R (take i xs) x)
    (least_join (FromSome R (take i xs)) (R x) a b h k))

pub least_over : {A : Type 0} (R : A → ℕ → Type 0) (xs : List A) (i : ℕ) (a : Option ℕ) → length xs ≤ i → IsLeast (FromSome R (take i xs)) a → IsLeast (FromSome R xs) a
least_over R xs i a l h = rw (take_all i xs l) at h

-- the point of a place that is a point
pub into_point : (edges : Edges) (p q : Point) (o : Option ℕ) → IsOnly (IsWalkTo edges.profile p q) o → IsLeast (IsWalkInto edges p (AtPoint q.x q.y)) o
into_point edges p q o h = least_as (IsWalkTo edges.profile p q) (IsWalkInto edges p (AtPoint q.x q.y)) o
    (λ n w. (q, refl, w)) (λ n w. subst (λ (z : Point). IsWalkTo edges.profile p z n) w.1 w.2) (least_only (IsWalkTo edges.profile p q) o h)

pub into_own : (edges : Edges) (p : Point) (named : ℕ) (place : Stop) (q : Point) (o : Option ℕ) → slice_get edges.stops named ≡ Some place → place.kind ≢ 1 → q ≡ point_of place → IsOnly (IsWalkTo edges.profile p q) o → IsLeast (IsWalkInto edges p (AtStop named)) o
into_own edges p named place q o e k is h = least_as (IsWalkTo edges.profile p q) (IsWalkInto edges p (AtStop named)) o
    (λ n w. (point_of place, has_own edges.stops named place e k, subst (λ (z : Point). IsWalkTo edges.profile p z n) is w))
    (λ n w. subst (λ (z : Point). IsWalkTo edges.profile p z n) (own_point edges.stops named place w.0 e k w.1 ∙ sym is) w.2)
    (least_only (IsWalkTo edges.profile p q) o h)

pub into_children : (edges : Edges) (p : Point) (named : ℕ) (place : Stop) (o : Option ℕ) → slice_get edges.stops named ≡ Some place → place.kind ≡ 1 → IsLeast (FromSome (IsWalkIntoChild edges.profile p named) edges.stops) o → IsLeast (IsWalkInto edges p (AtStop named)) o
into_children edges p named place o e k = least_as (FromSome (IsWalkIntoChild edges.profile p named) edges.stops) (IsWalkInto edges p (AtStop named)) o
    (λ n w. (w.2.0, has_child edges.stops named place w.2.0 e k (w.0, w.1, w.2.1), w.2.2))
    (λ n w. let c = child_of edges.stops named place w.0 e k w.1 in (c.0, c.1, (w.0, c.2, w.2)))

-- what goes through the one point with P
pub through_only : (P : Point → Type 0) (R : Point → ℕ → Type 0) (q : Point) (o : Option ℕ) → IsOnly P (Some q) → IsLeast (R q) o → IsLeast (λ n. (z : Point) × P z × R z n) o
through_only P R q o only = least_as (R q) (λ n. (z : Point) × P z × R z n) o
    (λ n r. (q, only.0, r)) (λ n w. subst (λ (z : Point). R z n) (sym (only.1 w.0 w.1)) w.2)

pub direct_point : (edges : Edges) (p : Point) (to : Place) (o : Option ℕ) → IsLeast (IsWalkInto edges p to) o → IsLeast (IsDirectWalk edges (AtPoint p.x p.y) to) o
direct_point edges p to o = least_as (IsWalkInto edges p to) (IsDirectWalk edges (AtPoint p.x p.y) to) o
    (λ n w. (p, refl, w)) (λ n w. subst (λ (z : Point). IsWalkInto edges z to n) w.1 w.2)

pub direct_own : (edges : Edges) (named : ℕ) (place : Stop) (p : Point) (to : Place) (o : Option ℕ) → slice_get edges.stops named ≡ Some place → place.kind ≢ 1 → p ≡ point_of place → IsLeast (IsWalkInto edges p to) o → IsLeast (IsDirectWalk edges (AtStop named) to) o
direct_own edges named place p to o e k is = least_as (IsWalkInto edges p to) (IsDirectWalk edges (AtStop named) to) o
    (λ n w. (point_of place, has_own edges.stops named place e k, subst (λ (z : Point). IsWalkInto edges z to n) is w))
    (λ n w. subst (λ (z : Point). IsWalkInto edges z to n) (own_point edges.stops named place w.0 e k w.1 ∙ sym is) w.2)

pub direct_children : (edges : Edges) (named : ℕ) (place : Stop) (to : Place) (o : Option ℕ) → slice_get edges.stops named ≡ Some place → place.kind ≡ 1 → IsLeast (FromSome (IsDirectFromChild edges named to) edges.stops) o → IsLeast (IsDirectWalk edges (AtStop named) to) o
direct_children edges named place to o e k = least_as (FromSome (IsDirectFromChild edges named to) edges.stops) (IsDirectWalk edges (AtStop named) to) o
    (λ n w. (w.2.0, has_child edges.stops named place w.2.0 e k (w.0, w.1, w.2.1), w.2.2))
    (λ n w. let c = child_of edges.stops named place w.0 e k w.1 in (c.0, c.1, (w.0, c.2, w.2)))
