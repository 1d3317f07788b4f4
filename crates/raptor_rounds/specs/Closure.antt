-- What a search keeps of beginnings of journeys: each is met by a label, or lost.
use Rattle.std.specs.Prelude.{◌≡◌, ◌⊎◌, ℕ, ◌+◌, ◌≤◌, ◌<◌, ℤ, pos, ◌+ℤ◌, ◌-ℤ◌, ◌≤ℤ◌, List, ◌∷◌, length}
use Rattle.otp_model.specs.declared.timetable.Call.{Call}
use Rattle.otp_model.specs.declared.timetable.Run.{Run}
use Rattle.otp_model.specs.declared.timetable.Edges.{Edges}
use Rattle.otp_model.specs.declared.journey.Request.{Request}
use Rattle.otp_model.specs.declared.journey.Value.{Value}
use Rattle.otp_model.specs.Beginnings.{Hop, IsHop, cost_at, departs, hop_penalty, penalty, walk_penalty}
use Rattle.otp_model.specs.Plane.{IsReached}
use Rattle.otp_model.specs.Journeys.{IsTransfer}
use Rattle.end_bounds.specs.Bounds.{Bounds}

-- the numbers of a beginning that comes to a stop by so many rides
pub record Entry : Type 0 where
  pub stop : ℕ
  pub departure : ℤ
  pub rides : ℕ
  pub time : ℤ
  pub penalty : ℕ

-- the numbers of a journey
pub record End : Type 0 where
  pub departure : ℤ
  pub arrival : ℤ
  pub rides : ℕ
  pub cost : ℤ

-- the first comes to the stop of the second, departs no earlier, and has no more rides, time and penalty
pub record IsNoWorse (by e : Entry) : Type 0 where
  pub same : by.stop ≡ e.stop
  pub late : e.departure ≤ℤ by.departure
  pub few : by.rides ≤ e.rides
  pub early : by.time ≤ℤ e.time
  pub cheap : by.penalty ≤ e.penalty

-- one of these is no worse
abbrev pub IsMet : (Entry → Type 0) → Entry → Type 0
IsMet labels e = (by : Entry) × labels by × IsNoWorse by e

-- one of these departs no earlier, arrives no later, and has no more rides and cost
pub record IsEnded (ends : End → Type 0) (departure : ℤ) (rides : ℕ) (arrival cost : ℤ) : Type 0 where
  pub by : End
  pub on : ends by
  pub late : departure ≤ℤ by.departure
  pub few : by.rides ≤ rides
  pub early : by.arrival ≤ℤ arrival
  pub cheap : by.cost ≤ℤ cost

-- However many more rides it takes to the destination, at least so many seconds and points away, one of these is as good.
pub record IsLost (far last : ℕ) (ends : End → Type 0) (seconds points : ℕ → ℕ) (departure : ℤ) (rides : ℕ) (time : ℤ) (penalty : ℕ) : Type 0 where
  pub ended : (more : ℕ) → rides + more ≤ last → seconds more < far
      → IsEnded ends departure (rides + more) (time +ℤ pos (seconds more)) (cost_at departure (time +ℤ pos (seconds more)) (penalty + points more))

-- having alighted there
abbrev pub IsLostEntry : Request → Bounds → (End → Type 0) → Entry → Type 0
IsLostEntry r b ends e = IsLost b.far r.rides ends (b.alight e.stop) (b.alight_points e.stop) e.departure e.rides e.time e.penalty

-- being ready there for a ride, which is counted
abbrev pub IsLostReady : Request → Bounds → (End → Type 0) → Entry → Type 0
IsLostReady r b ends e = IsLost b.far r.rides ends (b.ready e.stop) (b.ready_points e.stop) e.departure e.rides e.time e.penalty

-- departing with a run of the block from a position, whose call is at the entry's stop, at its time or later
abbrev pub IsLostPlace : Request → Bounds → (End → Type 0) → (block position : ℕ) → Entry → Type 0
IsLostPlace r b ends block position e = IsLost b.far r.rides ends (b.place block position) (b.ready_points e.stop) e.departure e.rides e.time e.penalty

abbrev pub IsSettled : Request → Bounds → (Entry → Type 0) → (End → Type 0) → Entry → Type 0
IsSettled r b labels ends e = IsMet labels e ⊎ IsLostEntry r b ends e

-- the first ride after an access
abbrev pub first_entry : Request → Hop → Entry
first_entry r h = record { stop = h.alight.stop; departure = h.board.departure -ℤ pos h.walk; rides = 1; time = h.alight.arrival; penalty = hop_penalty r h.walk }

-- a further ride
abbrev pub next_entry : Request → Entry → Hop → Entry
next_entry r e h = record { stop = h.alight.stop; departure = e.departure; rides = e.rides + 1; time = h.alight.arrival; penalty = e.penalty + hop_penalty r h.walk }

-- a beginning of one last ride and others
abbrev pub entry_of_hops : Request → Hop → List Hop → Entry
entry_of_hops r h hops = record { stop = h.alight.stop; departure = departs (h ∷ hops); rides = length (h ∷ hops); time = h.alight.arrival; penalty = penalty r (h ∷ hops) }

-- a ride that is reached by a transfer from there
pub record Reaches (runs : List Run) (edges : Edges) (slack : ℕ) (e : Entry) (h : Hop) : Type 0 where
  pub at : Call
  pub stop_is : at.stop ≡ e.stop
  pub time_is : at.arrival ≡ e.time
  pub transfer : IsTransfer edges slack at h.board h.walk
  pub ride : IsHop runs h

-- each further ride is settled
abbrev pub IsScanned : List Run → Edges → Request → Bounds → (Entry → Type 0) → (End → Type 0) → Entry → Type 0
IsScanned runs edges r b labels ends e = (h : Hop) → Reaches runs edges r.slack e h → IsSettled r b labels ends (next_entry r e h)

-- each first ride of a beginning that departs at one of these moments is settled
abbrev pub AreStartsSettled : List Run → Edges → Request → Bounds → (Entry → Type 0) → (End → Type 0) → (ℤ → Type 0) → Type 0
AreStartsSettled runs edges r b labels ends moments =
    (h : Hop) → IsReached edges r.from h.board.stop h.walk → IsHop runs h → moments (h.board.departure -ℤ pos h.walk) → IsSettled r b labels ends (first_entry r h)

-- the journey of this beginning and the egress
abbrev pub end_at : Request → Entry → ℕ → End
end_at r e egress =
    let arrival = e.time +ℤ pos egress in
    record { departure = e.departure; arrival = arrival; rides = e.rides; cost = cost_at e.departure arrival (e.penalty + walk_penalty r egress) }

-- The first rides at these moments are settled, and so are the further rides of each label that may have more; each label at
-- a stop of the egress has its end.
pub record IsClosed (runs : List Run) (edges : Edges) (r : Request) (b : Bounds) (labels : Entry → Type 0) (ends : End → Type 0) (moments : ℤ → Type 0) : Type 0 where
  pub starts : AreStartsSettled runs edges r b labels ends moments
  pub scanned : (e : Entry) → labels e → e.rides < r.rides → IsScanned runs edges r b labels ends e
  pub ended : (e : Entry) (egress : ℕ) → labels e → IsReached edges r.to e.stop egress → ends (end_at r e egress)

-- the value has these numbers
pub record IsValueOf (f : End) (v : Value) : Type 0 where
  pub departure : v.departure ≡ f.departure
  pub arrival : v.arrival ≡ f.arrival
  pub rides : v.rides ≡ f.rides
  pub cost : pos v.cost ≡ f.cost
