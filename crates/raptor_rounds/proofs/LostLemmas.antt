-- What extends a beginning that is lost is lost.
use Rattle.std.proofs.Common.{◌≡◌, ℕ, ◌+◌, ◌≤◌, ◌<◌, ℤ, pos, ◌+ℤ◌, ◌≤ℤ◌, List, refl, sym, arith}
use Rattle.std.specs.List.{Contains}
use Rattle.std.proofs.lemmas.Int.{ints}
use Rattle.otp_model.specs.declared.run_name.RunName.{RunName}
use Rattle.otp_model.specs.declared.timetable.Call.{Call}
use Rattle.otp_model.specs.declared.timetable.Run.{Run}
use Rattle.otp_model.specs.declared.timetable.Edges.{Edges}
use Rattle.otp_model.specs.declared.journey.Request.{Request}
use Rattle.otp_model.specs.Beginnings.{cost_at, hop_penalty, walk_penalty}
use Rattle.otp_model.specs.Plane.{IsReached}
use Rattle.otp_model.specs.Journeys.{IsTransfer, IsRideOn}
use Rattle.end_bounds.specs.Bounds.{Bounds}
use Rattle.raptor_rounds.specs.Closure.{End, IsEnded, IsLost}
use Rattle.raptor_rounds.specs.RunBounds.{AreRunBounds, IsBounded}

-- ---- over plain numbers

pub trans_ℤ : (a b c : ℤ) → a ≤ℤ b → b ≤ℤ c → a ≤ℤ c
trans_ℤ a b c x y = omega (arith, ints)

pub same_ℤ : (a : ℤ) → a ≤ℤ a
same_ℤ a = omega (arith, ints)

-- to depart earlier, end later and have more points costs no less
pub costs_more : (d e t u : ℤ) (p q : ℕ) → e ≤ℤ d → t ≤ℤ u → p ≤ q → cost_at d t p ≤ℤ cost_at e u q
costs_more d e t u p q a b c = omega (arith, ints)

walk_sums : (a d : ℤ) (m x y : ℕ) → x ≤ m + y → (a +ℤ pos m) ≤ℤ d → (a +ℤ pos x) ≤ℤ (d +ℤ pos y)
walk_sums a d m x y f g = omega (arith, ints)

wait_sums : (t a d : ℤ) (x m y : ℕ) → t ≤ℤ a → x ≤ m → (a +ℤ pos m) ≤ℤ (d +ℤ pos y) → (t +ℤ pos x) ≤ℤ (d +ℤ pos y)
wait_sums t a d x m y e f g = omega (arith, ints)

pub ended_worse : (ends : End → Type 0) (d e t u c v : ℤ) (k n : ℕ) → e ≤ℤ d → k ≤ n → t ≤ℤ u → c ≤ℤ v → IsEnded ends d k t c → IsEnded ends e n u v
ended_worse ends d e t u c v k n x y z w m = record {
  by = m.by;
  on = m.on;
  late = trans_ℤ e d m.by.departure x m.late;
  few = let f = m.few in omega arith;
  early = trans_ℤ m.by.arrival t u m.early z;
  cheap = trans_ℤ m.by.cost c v m.cheap w;
}

-- With some number of rides more the first needs no more seconds and points than the second with `j`, each from where it stands.
pub record IsNearer (far : ℕ) (seconds points : ℕ → ℕ) (k : ℕ) (t : ℤ) (p : ℕ) (later dearer n : ℕ) (u : ℤ) (q j : ℕ) : Type 0 where
  pub more : ℕ
  pub level : k + more ≤ n + j
  pub within : seconds more < far
  pub early : (t +ℤ pos (seconds more)) ≤ℤ (u +ℤ pos later)
  pub cheap : p + points more ≤ q + dearer

-- what is never nearer than one that is lost, is lost
pub lost_from : (far last : ℕ) (ends : End → Type 0) (seconds points seconds' points' : ℕ → ℕ) (d e : ℤ) (k n : ℕ) (t u : ℤ) (p q : ℕ)
    → e ≤ℤ d → ((j : ℕ) → n + j ≤ last → seconds' j < far → IsNearer far seconds points k t p (seconds' j) (points' j) n u q j)
    → IsLost far last ends seconds points d k t p → IsLost far last ends seconds' points' e n u q
lost_from far last ends seconds points seconds' points' d e k n t u p q a near l = record {
  ended = λ j few within.
      let x = near j few within in
      let level = x.level in
      ended_worse ends d e (t +ℤ pos (seconds x.more)) (u +ℤ pos (seconds' j)) _ _ (k + x.more) (n + j) a level x.early
      (costs_more d e (t +ℤ pos (seconds x.more)) (u +ℤ pos (seconds' j)) (p + points x.more) (q + points' j) a x.early x.cheap)
      (l.ended x.more (omega arith) x.within);
}

-- ---- what stays lost

-- an earlier departure, a later time, more rides, a greater penalty
pub lost_worse : (far last : ℕ) (ends : End → Type 0) (seconds points : ℕ → ℕ) (d e : ℤ) (k n : ℕ) (t u : ℤ) (p q : ℕ)
    → e ≤ℤ d → k ≤ n → t ≤ℤ u → p ≤ q → IsLost far last ends seconds points d k t p → IsLost far last ends seconds points e n u q
lost_worse far last ends seconds points d e k n t u p q a b c x l = lost_from far last ends seconds points seconds points d e k n t u p q a
    (λ j few within. record { more = j; level = omega arith; within = within; early = omega (arith, ints); cheap = omega arith }) l

-- more ends
pub lost_more : (far last : ℕ) (old new : End → Type 0) (seconds points : ℕ → ℕ) (d : ℤ) (k : ℕ) (t : ℤ) (p : ℕ)
    → ((f : End) → old f → new f) → IsLost far last old seconds points d k t p → IsLost far last new seconds points d k t p
lost_more far last old new seconds points d k t p more l = record {
  ended = λ j few within.
      let m = l.ended j few within in
      record { by = m.by; on = more m.by m.on; late = m.late; few = m.few; early = m.early; cheap = m.cheap };
}

-- along a ride that is bounded, from being ready for it at a time, and from its place
module _ (r : Request) (b : Bounds) (ends : End → Type 0) (block from : ℕ) (board alight : Call) (stop : ℕ) (d : ℤ) (k : ℕ) (t : ℤ) (p : ℕ) (stop_is : board.stop ≡ stop) (in_time : t ≤ℤ board.departure) (some : 2 ≤ k)
    (bounded : IsBounded r b block from board alight) where
  pub ready_lost : IsLost b.far r.rides ends (b.ready stop) (b.ready_points stop) d k t p → IsLost b.far r.rides ends (b.alight alight.stop) (b.alight_points alight.stop) d k alight.arrival p
  ready_lost l = lost_from b.far r.rides ends _ _ _ _ d d k k t alight.arrival p p (same_ℤ d) near (rw (sym stop_is) at l)
    where
      near : (j : ℕ) → k + j ≤ r.rides → b.alight alight.stop j < b.far → IsNearer b.far (b.ready board.stop) (b.ready_points board.stop) k t p (b.alight alight.stop j) (b.alight_points alight.stop j) k alight.arrival p j
      near j few within =
          let w = bounded j (omega arith) within in
          let c = w.points in
          let s = w.seconds in
          let o = w.ready in
          let i = w.within in
          record { more = j; level = omega arith; within = omega arith; early = wait_sums t board.departure alight.arrival _ _ _ in_time o s; cheap = omega arith }

  pub place_lost : IsLost b.far r.rides ends (b.place block from) (b.ready_points stop) d k t p → IsLost b.far r.rides ends (b.alight alight.stop) (b.alight_points alight.stop) d k alight.arrival p
  place_lost l = lost_from b.far r.rides ends _ _ _ _ d d k k t alight.arrival p p (same_ℤ d) near (rw (sym stop_is) at l)
    where
      near : (j : ℕ) → k + j ≤ r.rides → b.alight alight.stop j < b.far → IsNearer b.far (b.place block from) (b.ready_points board.stop) k t p (b.alight alight.stop j) (b.alight_points alight.stop j) k alight.arrival p j
      near j few within =
          let w = bounded j (omega arith) within in
          let c = w.points in
          let s = w.seconds in
          let i = w.within in
          record { more = j; level = omega arith; within = i; early = wait_sums t board.departure alight.arrival _ _ _ in_time (omega arith) s; cheap = omega arith }

module _ (runs : List Run) (edges : Edges) (r : Request) (b : Bounds) (bounds : AreRunBounds runs edges r b) (ends : End → Type 0) where
  -- along an edge, to be ready for the next ride
  pub lost_walk : (alight board : Call) (walk : ℕ) (d : ℤ) (k p : ℕ) → 1 ≤ k → IsTransfer edges r.slack alight board walk
      → IsLost b.far r.rides ends (b.alight alight.stop) (b.alight_points alight.stop) d k alight.arrival p
      → IsLost b.far r.rides ends (b.ready board.stop) (b.ready_points board.stop) d (k + 1) board.departure (p + hop_penalty r walk)
  lost_walk alight board walk d k p some x l =
      rw (sym x.to_is, sym x.walk_is) (lost_from b.far r.rides ends _ _ _ _ d d k (k + 1) alight.arrival board.departure _ _ (same_ℤ d) near l)
    where
      near : (j : ℕ) → (k + 1) + j ≤ r.rides → b.ready x.edge.to j < b.far
          → IsNearer b.far (b.alight alight.stop) (b.alight_points alight.stop) k alight.arrival p (b.ready x.edge.to j) (b.ready_points x.edge.to j) (k + 1) board.departure (p + hop_penalty r x.edge.walk) j
      near j few within =
          let w = bounds.walks alight.stop x.row x.edge j x.row_is x.on (omega arith) within in
          let s = w.seconds in
          let c = w.points in
          record { more = j + 1; level = omega arith; within = w.within; early = walk_sums alight.arrival board.departure _ _ _ s (rw x.walk_is x.in_time); cheap = omega arith }

  -- along a ride, to alight
  pub lost_ride : (run : Run) (from to : ℕ) (name : RunName) (board alight : Call) (d : ℤ) (k p : ℕ) → 2 ≤ k → Contains runs run → IsRideOn run from to name board alight
      → IsLost b.far r.rides ends (b.ready board.stop) (b.ready_points board.stop) d k board.departure p
      → IsLost b.far r.rides ends (b.alight alight.stop) (b.alight_points alight.stop) d k alight.arrival p
  lost_ride run from to name board alight d k p some on ride l =
      let x = bounds.rides run from to name board alight on ride in
      ready_lost r b ends x.block from board alight board.stop d k board.departure p refl (same_ℤ board.departure) some x.bound l

  -- at a stop of the egress some end is as good as the journey that ends there
  pub lost_end : (stop egress : ℕ) (d : ℤ) (k : ℕ) (t : ℤ) (p : ℕ) → k ≤ r.rides → IsReached edges r.to stop egress
      → IsLost b.far r.rides ends (b.alight stop) (b.alight_points stop) d k t p
      → IsEnded ends d k (t +ℤ pos egress) (cost_at d (t +ℤ pos egress) (p + walk_penalty r egress))
  lost_end stop egress d k t p few reached l =
      let w = bounds.ends stop egress reached in
      let s = w.seconds in
      let c = w.points in
      let early : (t +ℤ pos (b.alight stop 0)) ≤ℤ (t +ℤ pos egress) = omega (arith, ints) in
      ended_worse ends d d _ _ _ _ (k + 0) k (same_ℤ d) (omega arith) early
      (costs_more d d _ _ (p + b.alight_points stop 0) (p + walk_penalty r egress) (same_ℤ d) early (omega arith))
      (l.ended 0 (omega arith) w.within)
