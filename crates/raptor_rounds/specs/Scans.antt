-- What one round does: first rides after the access, and further rides after each label.
use Rattle.std.specs.Prelude.{◌≡◌, ℕ, ◌≤◌, ℤ, List, Some, slice_get}
use Rattle.otp_base.specs.Adds.{FromSome}
use Rattle.otp_model.specs.declared.timetable.Edge.{Edge}
use Rattle.otp_model.specs.declared.timetable.Edges.{Edges}
use Rattle.otp_model.specs.declared.timetable.Run.{Run}
use Rattle.otp_model.specs.declared.journey.Request.{Request}
use Rattle.otp_model.specs.Beginnings.{Hop}
use Rattle.trip_patterns.specs.Lanes.{LaneOf}
use Rattle.walk_table.specs.declared.reach.Reach.{Reach}
use Rattle.raptor_rounds.specs.declared.node.Node.{Node}
use Rattle.raptor_rounds.specs.Closure.{Entry, Reaches, next_entry}
use Rattle.raptor_rounds.specs.Labels.{entry_of}
use Rattle.raptor_rounds.specs.Rides.{Boards, IsRidden, ready_at, ready_by}

-- ---- first rides

-- to take one after this access
abbrev pub StartsBy : List Run → Request → ℤ → Reach → Entry → Type 0
StartsBy runs r departure reach e = Boards runs (ready_at r departure reach) e

-- the label is of one
abbrev pub IsStartedBy : List (List LaneOf) → Request → ℤ → Reach → Node → Type 0
IsStartedBy blocks r departure reach n = IsRidden blocks (ready_at r departure reach) n

-- ---- further rides

-- to take one after this edge
abbrev pub WalksBy : List Run → Request → ℕ → Node → Edge → Entry → Type 0
WalksBy runs r i n edge e = Boards runs (ready_by r i n edge) e

-- to take one after a label
abbrev pub GoesOn : List Run → Edges → Request → Node → Entry → Type 0
GoesOn runs edges r n e = (h : Hop) × Reaches runs edges r.slack (entry_of n) h × (e ≡ next_entry r (entry_of n) h)

-- after a label with a number that isn't below the first
abbrev pub GoesOnAt : List Run → Edges → Request → List Node → (first i : ℕ) → Entry → Type 0
GoesOnAt runs edges r arena first i e = (first ≤ i) × ((n : Node) × (slice_get arena i ≡ Some n) × GoesOn runs edges r n e)

-- the label is of one: after this edge, after this label, and after a label of the arena
abbrev pub IsWalkedBy : List (List LaneOf) → Request → ℕ → Node → Edge → Node → Type 0
IsWalkedBy blocks r i from edge n = IsRidden blocks (ready_by r i from edge) n

abbrev pub IsNextOf : List (List LaneOf) → Edges → Request → ℕ → Node → Node → Type 0
IsNextOf blocks edges r i from n = (row : List Edge) × (slice_get edges.from from.stop ≡ Some row) × FromSome (IsWalkedBy blocks r i from) row n

pub record IsNext (blocks : List (List LaneOf)) (edges : Edges) (r : Request) (arena : List Node) (first : ℕ) (n : Node) : Type 0 where
  pub i : ℕ
  pub after : first ≤ i
  pub from : Node
  pub from_is : slice_get arena i ≡ Some from
  pub next : IsNextOf blocks edges r i from n
