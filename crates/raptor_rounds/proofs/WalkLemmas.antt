-- Further rides: edge by edge, and label by label.
use Rattle.std.proofs.Common.{◌≡◌, ℕ, ◌+◌, ◌≤◌, ◌<◌, ℤ, List, [], ◌∷◌, Some, length, get_or, sym, ap, subst, ◌∙◌, arith}
use Rattle.std.specs.List.{Contains, slice_get}
use Rattle.std.proofs.lemmas.Option.{get_or_from_slice_get, same_Some, slice_get-get_or, slice_get_within}
use Rattle.otp_base.specs.Adds.{FromBelow, FromSome}
use Rattle.otp_model.specs.Beginnings.{hop_penalty}
use Rattle.otp_model.specs.declared.journey.Request.{Request}
use Rattle.otp_model.specs.declared.timetable.Edge.{Edge}
use Rattle.otp_model.specs.declared.timetable.Edges.{Edges}
use Rattle.otp_model.specs.declared.timetable.Run.{Run}
use Rattle.trip_patterns.specs.Lanes.{LaneOf}
use Rattle.raptor_rounds.specs.declared.node.Node.{Node}
use Rattle.raptor_rounds.specs.declared.state.RoundState.{RoundState}
use Rattle.raptor_rounds.specs.Closure.{Entry}
use Rattle.raptor_rounds.specs.Scans.{GoesOn, GoesOnAt, IsNext, IsNextOf, IsWalkedBy, WalksBy}
use Rattle.raptor_rounds.specs.States.{Settles}
use Rattle.raptor_rounds.proofs.SettleLemmas.{settles_for, settles_more_below}

-- to take a further ride is to take one of the edges from the label's stop
pub goes_over : (runs : List Run) (edges : Edges) (r : Request) (i : ℕ) (n : Node) (row : List Edge) (e : Entry) → slice_get edges.from n.stop ≡ Some row → GoesOn runs edges r n e → FromSome (WalksBy runs r i n) row e
goes_over runs edges r i n row e is q =
    let h = q.0 in
    let on = q.1 in
    let x = on.transfer in
    let one : x.row ≡ row = same_Some x.row row (sym x.row_is ∙ subst (λ (stop : ℕ). slice_get edges.from stop ≡ Some row) (sym on.stop_is) is) in (
      x.edge,
      subst (λ (z : List Edge). Contains z x.edge) one x.on,
      record {
        hop = h;
        ride = on.ride;
        stop_is = sym x.to_is;
        in_time = record { not_before = rw (sym on.time_is, x.walk_is) x.in_time; until = tt };
        entry_is = q.2 ∙ ap (λ (walk : ℕ). record { stop = h.alight.stop; departure = n.departure; rides = n.rides + 1; time = h.alight.arrival; penalty = n.penalty + hop_penalty r walk }) (sym x.walk_is);
      },
    )

pub goes_nowhere : (runs : List Run) (edges : Edges) (r : Request) (n : Node) → length edges.from ≤ n.stop → (e : Entry) → GoesOn runs edges r n e → ⊥
goes_nowhere runs edges r n past e q =
    let on = q.1 in
    let x = on.transfer in
    absurd (omega (arith, past, on.stop_is, slice_get_within edges.from on.at.stop x.row x.row_is))

pub settles_edges : (blocks : List (List LaneOf)) (runs : List Run) (edges : Edges) (r : Request) (i : ℕ) (n : Node) (row : List Edge) (old new : RoundState) → slice_get edges.from n.stop ≡ Some row
    → Settles r n.departure (FromSome (WalksBy runs r i n) row) (FromSome (IsWalkedBy blocks r i n) row) old new
    → Settles r n.departure (GoesOn runs edges r n) (IsNextOf blocks edges r i n) old new
settles_edges blocks runs edges r i n row old new is = settles_for r n.departure (FromSome (WalksBy runs r i n) row) (GoesOn runs edges r n) (FromSome (IsWalkedBy blocks r i n) row) (IsNextOf blocks edges r i n) old new
    (λ e q. goes_over runs edges r i n row e is q) (λ m p. (row, is, p))

-- ---- what is read of an arena that grows

abbrev pub Keeps : List Node → List Node → Type 0
Keeps old new = (i : ℕ) (n : Node) → slice_get old i ≡ Some n → slice_get new i ≡ Some n

pub within_kept : (old new : List Node) (i : ℕ) → Keeps old new → i < length old → i < length new
within_kept [] new i kept less = absurd (omega (arith, less))
within_kept (x ∷ xs) new i kept less =
    let was = get_or (x ∷ xs) i x in
    slice_get_within new i was (kept i was (slice_get-get_or (x ∷ xs) i x less))

pub read_kept : (old new : List Node) (i : ℕ) (n : Node) → Keeps old new → i < length old → n ≡ get_or new i n → slice_get old i ≡ Some n
read_kept old new i n kept less read =
    let was = slice_get-get_or old i n less in
    was ∙ ap (λ (z : Node). Some z) (sym (read ∙ get_or_from_slice_get new i (get_or old i n) n (kept i (get_or old i n) was)))

-- one label more
pub settles_scan : (blocks : List (List LaneOf)) (runs : List Run) (edges : Edges) (r : Request) (d : ℤ) (first i : ℕ) (n : Node) (a b c : RoundState) → first ≤ i
    → slice_get a.arena.items i ≡ Some n → n.departure ≡ d
    → Settles r d (FromBelow (GoesOnAt runs edges r a.arena.items first) i) (IsNext blocks edges r a.arena.items first) a b
    → Settles r n.departure (GoesOn runs edges r n) (IsNextOf blocks edges r i n) b c
    → Settles r d (FromBelow (GoesOnAt runs edges r a.arena.items first) (i + 1)) (IsNext blocks edges r a.arena.items first) a c
settles_scan blocks runs edges r d first i n a b c after is departs s t =
    settles_more_below r d (GoesOnAt runs edges r a.arena.items first) (IsNext blocks edges r a.arena.items first) i a b c s
    (settles_for r d (GoesOn runs edges r n) (GoesOnAt runs edges r a.arena.items first i) (IsNextOf blocks edges r i n) (IsNext blocks edges r a.arena.items first) b c
    (λ e q. subst (λ (z : Node). GoesOn runs edges r z e) (same_Some q.1.0 n (sym q.1.1 ∙ is)) q.1.2)
    (λ m p. record { i = i; after = after; from = n; from_is = is; next = p })
    (subst (λ (z : ℤ). Settles r z (GoesOn runs edges r n) (IsNextOf blocks edges r i n) b c) departs t))
