-- The legs that labels keep.
use Rattle.std.proofs.Common.{◌≡◌, ℕ, ◌≤◌, ◌<◌, pos, List, [], ◌∷◌, ◌++◌, Option, Some, None, IfSome, length, get_or, refl, sym, ap, subst, ◌∙◌, arith}
use Rattle.std.specs.List.{Contains, slice_get}
use Rattle.std.proofs.lemmas.List.{append_assoc}
use Rattle.std.proofs.lemmas.List.Elements.{All-contains}
use Rattle.std.proofs.lemmas.Option.{get_or_from_slice_get, same_Some, slice_get_within}
use Rattle.otp_model.specs.Beginnings.{Hop, legs_onto}
use Rattle.otp_model.specs.Limits.{least_walk_points}
use Rattle.otp_model.specs.Plane.{IsReached}
use Rattle.otp_model.specs.declared.journey.Leg.{Leg}
use Rattle.otp_model.specs.declared.journey.Leg.TheVariants.{Walk, Ride}
use Rattle.otp_model.specs.declared.journey.Request.{Request}
use Rattle.otp_model.specs.declared.run_name.RunName.{RunName}
use Rattle.otp_model.specs.declared.timetable.Call.{Call}
use Rattle.otp_model.specs.declared.timetable.Edges.{Edges}
use Rattle.otp_model.specs.declared.timetable.Run.{Run}
use Rattle.otp_model.proofs.BeginningLemmas.{arrival_onto, cost_onto, departure_onto, joined, rides_onto}
use Rattle.trip_patterns.specs.Lanes.{IsCallAt, IsLane, LaneOf}
use Rattle.trip_patterns.specs.Timetables.{StandsFor}
use Rattle.raptor_rounds.specs.declared.node.Final.{Final}
use Rattle.raptor_rounds.specs.declared.node.Node.{Node}
use Rattle.raptor_rounds.specs.declared.state.RoundState.{RoundState}
use Rattle.raptor_rounds.specs.Closure.{End, Entry, end_at, entry_of_hops}
use Rattle.raptor_rounds.specs.Labels.{HasChain, IsChain, IsFinal, IsFound, IsHopOf, IsLink, KeepsHop, end_of}
use Rattle.raptor_rounds.specs.Searched.{IsSearched}
use Rattle.raptor_rounds.proofs.BlockLemmas.{block_is}
use Rattle.raptor_rounds.proofs.LaneLemmas.{all_at, within_pattern}
use Rattle.raptor_rounds.proofs.RoundLemmas.{final_end}

-- ---- one ride

module _ (blocks : List (List LaneOf)) (runs : List Run) (stands : StandsFor blocks runs) (n : Node) (lanes : List LaneOf) (lane : LaneOf) (at : slice_get blocks n.block ≡ Some lanes)
    (read : lane ≡ get_or lanes n.lane lane) (h : Hop) (hop : IsHopOf blocks n h) where
  lane_here : slice_get lanes n.lane ≡ Some hop.lane
  lane_here = subst (λ (z : List LaneOf). slice_get z n.lane ≡ Some hop.lane) (same_Some hop.lanes lanes (sym hop.lanes_are ∙ at)) hop.lane_is

  one_lane : hop.lane ≡ lane
  one_lane = sym (read ∙ get_or_from_slice_get lanes n.lane hop.lane lane lane_here)

  is_lane : IsLane lane
  is_lane = subst IsLane one_lane (all_at IsLane lanes n.lane hop.lane (block_is blocks runs stands n.block lanes at).lanes_are lane_here)

  run_here : slice_get lane.runs n.row ≡ Some hop.run
  run_here = subst (λ (z : LaneOf). slice_get z.runs n.row ≡ Some hop.run) one_lane hop.run_is

  pub row_within : n.row < length lane.runs
  row_within = slice_get_within lane.runs n.row hop.run run_here

  pub board_within : n.board < length lane.pattern
  board_within = within_pattern lane is_lane n.row hop.run run_here n.board h.board (let ride = hop.ride in ride.boards)

  pub alight_within : n.alight < length lane.pattern
  alight_within = within_pattern lane is_lane n.row hop.run run_here n.alight h.alight (let ride = hop.ride in ride.alights)

  call_read : (position : ℕ) (x y : Call) → IsCallAt lane.runs n.row position x → slice_get hop.run.calls position ≡ Some y → x ≡ y
  call_read position x y is other =
      let one : is.run ≡ hop.run = same_Some is.run hop.run (sym is.run_is ∙ run_here) in
      same_Some x y (sym is.call_is ∙ subst (λ (z : Run). slice_get z.calls position ≡ Some y) (sym one) other)

  pub ride_read : (name : RunName) (board alight : Call) → IfSome (slice_get lane.runs n.row) (λ (run : Run). name ≡ run.name) → IsCallAt lane.runs n.row n.board board → IsCallAt lane.runs n.row n.alight alight
      → Ride name board alight ≡ Ride h.name h.board h.alight
  ride_read name board alight name_is board_is alight_is =
      let ride = hop.ride in
      let same : name ≡ h.name = subst (λ (o : Option Run). IfSome o (λ (run : Run). name ≡ run.name)) run_here name_is ∙ sym ride.name_is in
      let from = call_read n.board board h.board board_is ride.boards in
      let to = call_read n.alight alight h.alight alight_is ride.alights in
      λ i. Ride (same i) (from i) (to i)

pub two_pushed : (xs ys zs : List Leg) (a b c : Leg) → ys ≡ xs ++ a ∷ [] → zs ≡ ys ++ b ∷ [] → b ≡ c → zs ≡ xs ++ a ∷ c ∷ []
two_pushed xs ys zs a b c p q e = rw (q, p, e) (append_assoc xs (a ∷ []) (c ∷ []))

-- ---- the rides of a label

legs_split : (hops : List Hop) (legs : List Leg) → legs_onto hops legs ≡ legs_onto hops [] ++ legs
legs_split [] legs = refl
legs_split (h ∷ hops) legs =
    let own : List Leg = Walk h.walk ∷ Ride h.name h.board h.alight ∷ [] in
    legs_split hops (Walk h.walk ∷ Ride h.name h.board h.alight ∷ legs) ∙ sym (append_assoc (legs_onto hops []) own legs) ∙ ap (λ (z : List Leg). z ++ legs) (sym (legs_split hops own))

-- the rides and a walk behind them
pub legs_whole : (xs ys zs : List Leg) (hops : List Hop) (end : Leg) → xs ≡ [] → ys ≡ xs ++ legs_onto hops [] → zs ≡ ys ++ end ∷ [] → zs ≡ legs_onto hops (end ∷ [])
legs_whole xs ys zs hops end none p q = rw (q, p, none) (sym (legs_split hops (end ∷ [])))

-- the last ride after those of the parent
pub legs_more : (xs ys zs : List Leg) (h g : Hop) (hops : List Hop) → ys ≡ xs ++ legs_onto (g ∷ hops) [] → zs ≡ ys ++ legs_onto (h ∷ []) [] → zs ≡ xs ++ legs_onto (h ∷ g ∷ hops) []
legs_more xs ys zs h g hops p q =
    let own : List Leg = Walk h.walk ∷ Ride h.name h.board h.alight ∷ [] in
    q ∙ ap (λ (z : List Leg). z ++ own) p ∙ append_assoc xs (legs_onto (g ∷ hops) []) own ∙ ap (λ (z : List Leg). xs ++ z) (sym (legs_split (g ∷ hops) own))

link_hop : (blocks : List (List LaneOf)) (arena : List Node) (i : ℕ) (n : Node) (h : Hop) (parent : Option ℕ) → slice_get arena i ≡ Some n → IsLink blocks arena i h parent → IsHopOf blocks n h × (n.parent ≡ parent)
link_hop blocks arena i n h parent at l =
    let one : l.node ≡ n = same_Some l.node n (sym l.node_is ∙ at) in
    (subst (λ (z : Node). IsHopOf blocks z h) one l.hop, subst (λ (z : Node). z.parent ≡ parent) one l.parent_is)

pub chain_within : (blocks : List (List LaneOf)) (arena : List Node) (i : ℕ) (hops : List Hop) → IsChain blocks arena i hops → i < length arena
chain_within blocks arena i [] c = absurd c
chain_within blocks arena i (h ∷ []) c = slice_get_within arena i c.node c.node_is
chain_within blocks arena i (h ∷ g ∷ hops) c = slice_get_within arena i (c.2).node (c.2).node_is

module _ (blocks : List (List LaneOf)) (arena : List Node) (i : ℕ) (n : Node) (at : slice_get arena i ≡ Some n) where
  pub chain_keeps : (hops : List Hop) → IsChain blocks arena i hops → KeepsHop blocks n
  chain_keeps [] c = absurd c
  chain_keeps (h ∷ []) c = (h, (link_hop blocks arena i n h None at c).0)
  chain_keeps (h ∷ g ∷ hops) c = (h, (link_hop blocks arena i n h (Some c.0) at c.2).0)

  -- without a parent it is one ride
  pub chain_first : (xs ys : List Leg) → n.parent ≡ None → ((h : Hop) → IsHopOf blocks n h → ys ≡ xs ++ legs_onto (h ∷ []) []) → (hops : List Hop) → IsChain blocks arena i hops → ys ≡ xs ++ legs_onto hops []
  chain_first xs ys none push [] c = absurd c
  chain_first xs ys none push (h ∷ []) c = push h (link_hop blocks arena i n h None at c).0
  chain_first xs ys none push (h ∷ g ∷ hops) c = absurd (let some : None ≡ Some c.0 = sym none ∙ (link_hop blocks arena i n h (Some c.0) at c.2).1 in cc)

  module _ (parent : ℕ) (some : n.parent ≡ Some parent) where
    one_parent : (h : Hop) (p : ℕ) → IsLink blocks arena i h (Some p) → p ≡ parent
    one_parent h p l = same_Some p parent (sym (link_hop blocks arena i n h (Some p) at l).1 ∙ some)

    pub chain_parent : (hops : List Hop) → IsChain blocks arena i hops → (parent < i) × HasChain blocks arena parent
    chain_parent [] c = absurd c
    chain_parent (h ∷ []) c = absurd (let none : None ≡ Some parent = sym (link_hop blocks arena i n h None at c).1 ∙ some in cc)
    chain_parent (h ∷ g ∷ hops) c =
        let same = one_parent h c.0 c.2 in
        (subst (λ (p : ℕ). p < i) same c.1, (g ∷ hops, subst (λ (p : ℕ). IsChain blocks arena p (g ∷ hops)) same c.3))

    pub chain_next : (xs ys zs : List Leg) → ((hops : List Hop) → IsChain blocks arena parent hops → ys ≡ xs ++ legs_onto hops []) → ((h : Hop) → IsHopOf blocks n h → zs ≡ ys ++ legs_onto (h ∷ []) [])
        → (hops : List Hop) → IsChain blocks arena i hops → zs ≡ xs ++ legs_onto hops []
    chain_next xs ys zs before push [] c = absurd c
    chain_next xs ys zs before push (h ∷ []) c = absurd (let none : None ≡ Some parent = sym (link_hop blocks arena i n h None at c).1 ∙ some in cc)
    chain_next xs ys zs before push (h ∷ g ∷ hops) c =
        legs_more xs ys zs h g hops (before (g ∷ hops) (subst (λ (p : ℕ). IsChain blocks arena p (g ∷ hops)) (one_parent h c.0 c.2) c.3)) (push h (link_hop blocks arena i n h (Some c.0) at c.2).0)

-- ---- the journey of a final

module _ (runs : List Run) (blocks : List (List LaneOf)) (edges : Edges) (r : Request) (s : RoundState) (points : least_walk_points ≤ r.walk_points) (is : IsSearched runs blocks edges r s) where
  pub found_of : (f : Final) (legs : List Leg) → Contains s.finals.items f → ((hops : List Hop) → IsChain blocks s.arena.items f.label hops → legs ≡ legs_onto hops (Walk f.egress ∷ [])) → IsFound runs edges r f.value legs
  found_of f legs on kept =
      let made = All-contains (IsFinal r s.aim.egress.items s.arena.items) s.finals.items f is.open_is.finals_are on in
      let n = made.node in
      let reach = made.reach in
      let l = is.sound f.label n made.node_is in
      let range = is.open_is.in_range f.label n made.node_is in
      let h = l.last in
      let hops = l.rest in
      let egress : f.egress ≡ reach.seconds = ap (λ (z : Final). z.egress) made.is.1 in
      let legs_are : legs ≡ legs_onto (h ∷ hops) (Walk reach.seconds ∷ []) = kept (h ∷ hops) l.chain ∙ ap (λ (w : ℕ). legs_onto (h ∷ hops) (Walk w ∷ [])) egress in
      let stop : reach.stop ≡ h.alight.stop = made.is.0 ∙ ap (λ (e : Entry). e.stop) l.entry_is in
      let reached : IsReached edges r.to h.alight.stop reach.seconds = subst (λ (z : ℕ). IsReached edges r.to z reach.seconds) stop ((is.egress reach).0 made.on) in
      let count : n.rides ≡ length (h ∷ hops) = ap (λ (e : Entry). e.rides) l.entry_is in
      let end : end_of f ≡ end_at r (entry_of_hops r h hops) reach.seconds =
      ap end_of made.is.1 ∙ final_end r f.label n reach range ∙ ap (λ (e : Entry). end_at r e reach.seconds) l.entry_is in
      subst (λ (z : List Leg). IsFound runs edges r f.value z) (sym legs_are) (record {
        journey = joined runs edges r h hops reach.seconds [] l.begins reached (omega (arith, count, range.few));
        has = record {
          departure = ap (λ (e : End). e.departure) end ∙ sym (departure_onto h hops (Walk reach.seconds ∷ []));
          arrival = ap (λ (e : End). e.arrival) end ∙ sym (arrival_onto h hops (pos 0) (Walk reach.seconds ∷ []));
          rides = ap (λ (e : End). e.rides) end ∙ sym (rides_onto (h ∷ hops) (Walk reach.seconds ∷ []) ∙ omega arith);
          cost = ap (λ (e : End). e.cost) end ∙ sym (cost_onto r h hops reach.seconds points);
        };
      })
