-- Each label stands for a beginning of a journey.
use Rattle.std.proofs.Common.{◌≡◌, inl, inr, ℕ, ◌+◌, ◌≤◌, max, ℤ, pos, ◌+ℤ◌, ◌-ℤ◌, ◌≤ℤ◌, List, [], ◌∷◌, Option, Some, None, length, refl, sym, ap, subst, ◌∙◌, arith}
use Rattle.std.specs.List.{slice_get}
use Rattle.std.proofs.lemmas.Bool.{cases_lt}
use Rattle.std.proofs.lemmas.Int.{ints}
use Rattle.std.proofs.lemmas.Option.{get_or_from_slice_get, slice_get_within}
use Rattle.otp_base.specs.Adds.{FromSome}
use Rattle.otp_base.specs.EachAt.{EachAt}
use Rattle.otp_model.specs.Beginnings.{Hop, IsHop, departs, hop_penalty, penalty}
use Rattle.otp_model.specs.Journeys.{IsTransfer}
use Rattle.otp_model.specs.Plane.{IsReached}
use Rattle.otp_model.specs.declared.journey.Request.{Request}
use Rattle.otp_model.specs.declared.timetable.Edge.{Edge}
use Rattle.otp_model.specs.declared.timetable.Edges.{Edges}
use Rattle.otp_model.specs.declared.timetable.Run.{Run}
use Rattle.trip_patterns.specs.Lanes.{LaneOf}
use Rattle.trip_patterns.specs.Timetables.{StandsFor}
use Rattle.walk_table.specs.Reaches.{AreReached}
use Rattle.walk_table.specs.declared.reach.Reach.{Reach}
use Rattle.raptor_rounds.specs.declared.node.Node.{Node}
use Rattle.raptor_rounds.specs.declared.ready.Ready.{Ready}
use Rattle.raptor_rounds.specs.declared.state.RoundState.{RoundState}
use Rattle.raptor_rounds.specs.Closure.{Entry}
use Rattle.raptor_rounds.specs.Labels.{IsChain, IsHopOf, IsLabelOf, IsLink}
use Rattle.raptor_rounds.specs.Rides.{IsRidden, IsRiddenOn, ready_at, ready_by}
use Rattle.raptor_rounds.specs.Scans.{IsNext, IsStartedBy}
use Rattle.raptor_rounds.specs.States.{Settles}
use Rattle.raptor_rounds.proofs.BlockLemmas.{run_of_row}
use Rattle.raptor_rounds.proofs.WalkLemmas.{Keeps, read_kept}

-- what holds of the old labels and of the new ones holds of all
pub each_grown : (r : Request) (d : ℤ) (Q : Entry → Type 0) (P : Node → Type 0) (old new : RoundState) (R : ℕ → Node → Type 0) → Settles r d Q P old new
    → ((i : ℕ) (n : Node) → slice_get old.arena.items i ≡ Some n → R i n)
    → ((i : ℕ) (n : Node) → length old.arena.items ≤ i → slice_get new.arena.items i ≡ Some n → P n → R i n) → EachAt R new.arena.items
each_grown r d Q P old new R s were come i n h = elim (cases_lt i (length old.arena.items)) [
  | inl less ↦ were i n (read_kept old.arena.items new.arena.items i n s.kept less (sym (get_or_from_slice_get new.arena.items i n n h)))
  | inr more ↦ elim (s.only i n h) [
    | inl was ↦ absurd (omega (arith, more, slice_get_within old.arena.items i n was))
    | inr p ↦ come i n more h p
  ]
]

-- ---- chains

module _ (blocks : List (List LaneOf)) (old new : List Node) (kept : Keeps old new) where
  link_kept : (i : ℕ) (h : Hop) (parent : Option ℕ) → IsLink blocks old i h parent → IsLink blocks new i h parent
  link_kept i h parent l = record { node = l.node; node_is = kept i l.node l.node_is; hop = l.hop; parent_is = l.parent_is }

  pub chain_kept : (i : ℕ) (hops : List Hop) → IsChain blocks old i hops → IsChain blocks new i hops
  chain_kept i [] c = absurd c
  chain_kept i (h ∷ []) c = link_kept i h None c
  chain_kept i (h ∷ g ∷ hops) c = (c.0, c.1, link_kept i h (Some c.0) c.2, chain_kept c.0 (g ∷ hops) c.3)

pub label_kept : (runs : List Run) (blocks : List (List LaneOf)) (edges : Edges) (r : Request) (old new : List Node) (i : ℕ) (n : Node) → Keeps old new
    → IsLabelOf runs blocks edges r old i n → IsLabelOf runs blocks edges r new i n
label_kept runs blocks edges r old new i n kept l =
    record { last = l.last; rest = l.rest; begins = l.begins; chain = chain_kept blocks old new kept i (l.last ∷ l.rest) l.chain; entry_is = l.entry_is }

-- ---- the ride of a new label

module _ (runs : List Run) (blocks : List (List LaneOf)) (stands : StandsFor blocks runs) (b : Ready) (n : Node) (p : IsRidden blocks b n) where
  abbrev pub hop_of : Hop
  hop_of = record { walk = n.walk; name = (p.2.2).name; board = (p.2.2).board; alight = (p.2.2).alight }

  pub hop_is : IsHopOf blocks n hop_of
  hop_is = record { lanes = p.0; lanes_are = p.1; lane = p.2.0; lane_is = p.2.1; run = (p.2.2).run; run_is = (p.2.2).run_is; ride = (p.2.2).ride; walk_is = refl }

  pub is_hop : IsHop runs hop_of
  is_hop = record {
    run = (p.2.2).run;
    on = run_of_row blocks runs stands n.block n.lane n.row p.0 p.2.0 (p.2.2).run p.1 p.2.1 (p.2.2).run_is;
    from = n.board;
    to = n.alight;
    is = (p.2.2).ride;
  }

none_more : (x : ℕ) → x ≡ 0 + x
none_more x = omega arith

exact : (d t : ℤ) (w : ℕ) → (d +ℤ pos w) ≤ℤ t → t ≤ℤ (d +ℤ pos w) → d ≡ t -ℤ pos w
exact d t w a b = omega (arith, ints, a, b)

module _ (runs : List Run) (blocks : List (List LaneOf)) (stands : StandsFor blocks runs) (edges : Edges) (r : Request) where
  -- a first ride
  pub label_started : (d : ℤ) (starts : List Reach) (arena : List Node) (i : ℕ) (n : Node) → AreReached edges r.from starts → slice_get arena i ≡ Some n
      → FromSome (IsStartedBy blocks r d) starts n → IsLabelOf runs blocks edges r arena i n
  label_started d starts arena i n reached is q =
      let reach = q.0 in
      let b = ready_at r d reach in
      let p = q.2 in
      let x : IsRiddenOn p.2.0 b n.block n.lane n = p.2.2 in
      let h = hop_of runs blocks stands b n p in
      let t = x.in_time in
      let walk : n.walk ≡ reach.seconds = x.walk_is in
      let from : IsReached edges r.from h.board.stop n.walk =
      subst (λ (stop : ℕ). IsReached edges r.from stop n.walk) (sym x.stop_is) (subst (λ (w : ℕ). IsReached edges r.from reach.stop w) (sym walk) ((reached reach).0 q.1)) in
      let departure : d ≡ h.board.departure -ℤ pos n.walk = exact d x.board.departure reach.seconds t.not_before t.until ∙ ap (λ (w : ℕ). x.board.departure -ℤ pos w) (sym walk) in
      let points : hop_penalty r reach.seconds ≡ 0 + hop_penalty r n.walk = ap (λ (w : ℕ). hop_penalty r w) (sym walk) ∙ none_more (hop_penalty r n.walk) in
      record {
        last = h;
        rest = [];
        begins = (from, is_hop runs blocks stands b n p);
        chain = record { node = n; node_is = is; hop = hop_is runs blocks stands b n p; parent_is = x.parent_is };
        entry_is = x.entry_is ∙ (λ k. record { stop = x.alight.stop; departure = departure k; rides = 1; time = x.alight.arrival; penalty = points k });
      }

  -- a further ride
  pub label_next : (old new : List Node) (first i : ℕ) (n : Node) → Keeps old new → EachAt (IsLabelOf runs blocks edges r old) old → length old ≤ i → slice_get new i ≡ Some n
      → IsNext blocks edges r old first n → IsLabelOf runs blocks edges r new i n
  label_next old new first i n kept sound after is q =
      let was = sound q.i q.from q.from_is in
      let edge : Edge = q.next.2.0 in
      let b = ready_by r q.i q.from edge in
      let p = q.next.2.2 in
      let x : IsRiddenOn p.2.0 b n.block n.lane n = p.2.2 in
      let h = hop_of runs blocks stands b n p in
      let stop : q.from.stop ≡ was.last.alight.stop = ap (λ (e : Entry). e.stop) was.entry_is in
      let time : q.from.time ≡ was.last.alight.arrival = ap (λ (e : Entry). e.time) was.entry_is in
      let departure : q.from.departure ≡ departs (was.last ∷ was.rest) = ap (λ (e : Entry). e.departure) was.entry_is in
      let count : q.from.rides ≡ length (was.last ∷ was.rest) = ap (λ (e : Entry). e.rides) was.entry_is in
      let before : q.from.penalty ≡ penalty r (was.last ∷ was.rest) = ap (λ (e : Entry). e.penalty) was.entry_is in
      let walk : n.walk ≡ edge.walk = x.walk_is in
      let rides : q.from.rides + 1 ≡ length (h ∷ was.last ∷ was.rest) = omega (arith, count) in
      let points : q.from.penalty + hop_penalty r edge.walk ≡ penalty r (was.last ∷ was.rest) + hop_penalty r n.walk =
      ap (λ (p : ℕ). p + hop_penalty r edge.walk) before ∙ ap (λ (w : ℕ). penalty r (was.last ∷ was.rest) + hop_penalty r w) (sym walk) in
      let t = x.in_time in
      let transfer : IsTransfer edges r.slack was.last.alight h.board n.walk = record {
        row = q.next.0;
        row_is = subst (λ (stop : ℕ). slice_get edges.from stop ≡ Some q.next.0) stop q.next.1;
        edge = edge;
        on = q.next.2.1;
        to_is = sym x.stop_is;
        walk_is = sym walk;
        in_time = subst (λ (z : ℤ). (z +ℤ pos (max (n.walk + r.slack) edge.minimum)) ≤ℤ h.board.departure) time
            (subst (λ (w : ℕ). (q.from.time +ℤ pos (max (w + r.slack) edge.minimum)) ≤ℤ h.board.departure) (sym walk) t.not_before);
      } in
      record {
        last = h;
        rest = was.last ∷ was.rest;
        begins = (transfer, is_hop runs blocks stands b n p, was.begins);
        chain = (
          q.i,
          omega (arith, after, slice_get_within old q.i q.from q.from_is),
          record { node = n; node_is = is; hop = hop_is runs blocks stands b n p; parent_is = x.parent_is },
          chain_kept blocks old new kept q.i (was.last ∷ was.rest) was.chain,
        );
        entry_is = x.entry_is ∙ (λ k. record { stop = x.alight.stop; departure = departure k; rides = rides k; time = x.alight.arrival; penalty = points k });
      }
