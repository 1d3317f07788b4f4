-- What a search keeps between rounds and between departures.
use Rattle.std.specs.Prelude.{◌≡◌, ◌⊎◌, ℕ, ◌+◌, ◌-◌, ◌≤◌, ◌<◌, ℤ, pos, ◌≤ℤ◌, ◌<ℤ◌, List, [], Option, Some, None, slice_get}
use Rattle.std.specs.List.{All, Any, Contains}
use Rattle.otp_base.specs.EachAt.{EachAt}
use Rattle.otp_model.specs.declared.timetable.Run.{Run}
use Rattle.otp_model.specs.declared.timetable.Edges.{Edges}
use Rattle.otp_model.specs.declared.journey.Request.{Request}
use Rattle.otp_model.specs.declared.journey.Value.{Value}
use Rattle.otp_model.specs.Whole.{IsNoWorse, IsOffered}
use Rattle.label_bags.specs.declared.label.Label.{Label}
use Rattle.label_bags.specs.Bags.{IsCovered}
use Rattle.trip_patterns.specs.Lanes.{LaneOf}
use Rattle.walk_table.specs.Reaches.{AreReached}
use Rattle.raptor_rounds.specs.declared.bags.StopBags.{StopBags}
use Rattle.raptor_rounds.specs.declared.node.Node.{Node}
use Rattle.raptor_rounds.specs.declared.node.Final.{Final}
use Rattle.raptor_rounds.specs.declared.ready.Ready.{Ready}
use Rattle.raptor_rounds.specs.declared.state.RoundState.{RoundState}
use Rattle.end_bounds.specs.Bounds.{AreBounds, Bounds}
use Rattle.end_bounds.specs.Found.{bounds_of as bounds_in}
use Rattle.final_fronts.specs.declared.step.Step.{Step}
use Rattle.raptor_rounds.specs.Closure.{AreStartsSettled, Entry, IsLostPlace, IsLostReady, IsScanned, IsSettled}
use Rattle.raptor_rounds.specs.Labels.{HasFinals, InArena, InFinals, IsFinal, IsLabelOf, entry_of}
use Rattle.raptor_rounds.specs.Rides.{IsNodeInRange, ready_entry}

-- ---- bags

-- the label of a bag has the numbers of a label of the arena, which comes to this stop by so many rides
pub record IsLabelAt (arena : List Node) (stop rides : ℕ) (l : Label) : Type 0 where
  pub node : Node
  pub node_is : slice_get arena l.number ≡ Some node
  pub stop_is : node.stop ≡ stop
  pub rides_are : node.rides ≡ rides
  pub time_is : l.time ≡ node.time
  pub penalty_is : l.penalty ≡ pos node.penalty

-- the bag with the place k is that of k + 1 rides
abbrev pub IsBagAt : List Node → (stop k : ℕ) → List Label → Type 0
IsBagAt arena stop k bag = (l : Label) → Contains bag l → IsLabelAt arena stop (k + 1) l

abbrev pub AreBagsIn : List Node → ℕ → List (List Label) → Type 0
AreBagsIn arena stop bags = EachAt (IsBagAt arena stop) bags

abbrev pub AreBagsAt : List Node → ℕ → StopBags → Type 0
AreBagsAt arena stop at = AreBagsIn arena stop at.bags.items

abbrev pub AreBags : List Node → List StopBags → Type 0
AreBags arena bags = EachAt (AreBagsAt arena) bags

abbrev pub label_of : Node → ℕ → Label
label_of n number = record { time = n.time; penalty = pos n.penalty; number = number }

-- some bag of no more rides covers the label
pub record IsCoveredIn (bags : List (List Label)) (n : Node) : Type 0 where
  pub k : ℕ
  pub few : k < n.rides
  pub bag : List Label
  pub bag_is : slice_get bags k ≡ Some bag
  pub covered : IsCovered bag n.time (pos n.penalty)

pub record IsCoveredAt (bags : List StopBags) (n : Node) : Type 0 where
  pub at : StopBags
  pub at_is : slice_get bags n.stop ≡ Some at
  pub covered : IsCoveredIn at.bags.items n

-- the labels of a stop and a number of rides
abbrev pub bag_or_none : Option (List Label) → List Label
bag_or_none None = []
bag_or_none (Some bag) = bag

abbrev pub bag_in : Option StopBags → ℕ → List Label
bag_in None place = []
bag_in (Some at) place = bag_or_none (slice_get at.bags.items place)

abbrev pub labels_in : List StopBags → (stop rides : ℕ) → List Label
labels_in bags stop rides = bag_in (slice_get bags stop) (rides - 1)

abbrev pub bag_at : List (List Label) → ℕ → List Label
bag_at bags place = bag_or_none (slice_get bags place)

-- what the bags of each place covered they cover still
abbrev pub CoverStill : (before after : ℕ → List Label) → Type 0
CoverStill before after = (place : ℕ) (time penalty : ℤ) → IsCovered (before place) time penalty → IsCovered (after place) time penalty

-- the bag of the label's stop and rides covers it
abbrev pub IsKeptCovered : List StopBags → ℕ → Node → Type 0
IsKeptCovered bags i n = IsCovered (labels_in bags n.stop n.rides) n.time (pos n.penalty)

-- ---- the state

abbrev pub labels_of : RoundState → (stop rides : ℕ) → List Label
labels_of s stop rides = labels_in s.bags.items stop rides

abbrev pub departures_of : RoundState → List ℤ
departures_of s = s.departures.items

abbrev pub arena_of : RoundState → List Node
arena_of s = s.arena.items

abbrev pub finals_of : RoundState → List Final
finals_of s = s.finals.items

-- what is known of seconds and points to the destination
abbrev pub bounds_of : RoundState → Bounds
bounds_of s = bounds_in s.aim.bounds

-- the label's numbers are met by a label of the state, or lost
abbrev pub IsStateSettled : Request → RoundState → Entry → Type 0
IsStateSettled r s e = IsSettled r (bounds_of s) (InArena s.arena.items) (InFinals s.finals.items) e

abbrev pub IsInRangeAt : Request → ℕ → Node → Type 0
IsInRangeAt r i n = IsNodeInRange r n

abbrev pub step_of : Final → Step
step_of f = record { arrival = f.value.arrival; cost = pos f.value.cost }

-- the step is that of a final with no more rides
pub record IsStepOf (finals : List Final) (rides : ℕ) (step : Step) : Type 0 where
  pub by : Final
  pub on : Contains finals by
  pub few : by.value.rides ≤ rides
  pub step_is : step_of by ≡ step

abbrev pub IsFrontOf : List Final → (rides : ℕ) → List Step → Type 0
IsFrontOf finals rides front = (step : Step) → Contains front step → IsStepOf finals rides step

-- each step of a front is that of a final with no more rides than the front's number
abbrev pub AreFronts : List Final → List (List Step) → Type 0
AreFronts finals fronts = EachAt (IsFrontOf finals) fronts

-- the bags, the arena, the finals and their fronts belong together
pub record IsOpen (r : Request) (s : RoundState) : Type 0 where
  pub bags_are : AreBags s.arena.items s.bags.items
  pub covered : EachAt (IsKeptCovered s.bags.items) s.arena.items
  pub in_range : EachAt (IsInRangeAt r) s.arena.items
  pub ended : EachAt (HasFinals r s.aim.egress.items s.finals.items) s.arena.items
  pub finals_are : All (IsFinal r s.aim.egress.items s.arena.items) s.finals.items
  pub fronts : AreFronts s.finals.items s.fronts.items

abbrev pub IsLate : ℤ → ℕ → Node → Type 0
IsLate departure i n = departure ≤ℤ n.departure

-- a label with a number that isn't below the first departs at this moment, and has so many rides
pub record IsOfRound (departure : ℤ) (first rides : ℕ) (i : ℕ) (n : Node) : Type 0 where
  pub departs : first ≤ i → n.departure ≡ departure
  pub rides_are : first ≤ i → n.rides ≡ rides

-- and each label departs at this moment or later
pub record IsOpenAt (r : Request) (departure : ℤ) (s : RoundState) : Type 0 where
  pub open_is : IsOpen r s
  pub late : EachAt (IsLate departure) s.arena.items

abbrev pub IsEntryOf : Node → Entry → Type 0
IsEntryOf n e = entry_of n ≡ e

abbrev pub IsItself : Node → Node → Type 0
IsItself n m = n ≡ m

-- The state grew, by labels with P alone, and what has Q is settled.
pub record Settles (r : Request) (departure : ℤ) (Q : Entry → Type 0) (P : Node → Type 0) (old new : RoundState) : Type 0 where
  pub open_is : IsOpenAt r departure new
  pub aim_is : new.aim ≡ old.aim
  pub departures_are : new.departures.items ≡ old.departures.items
  pub kept : (i : ℕ) (n : Node) → slice_get old.arena.items i ≡ Some n → slice_get new.arena.items i ≡ Some n
  pub grown : (f : Final) → Contains old.finals.items f → Contains new.finals.items f
  pub settled : (e : Entry) → Q e → IsStateSettled r new e
  pub only : (i : ℕ) (n : Node) → slice_get new.arena.items i ≡ Some n → (slice_get old.arena.items i ≡ Some n) ⊎ P n

abbrev pub IsBefore : ℤ → ℤ → Type 0
IsBefore departure seen = departure <ℤ seen

abbrev pub Saw : RoundState → ℤ → Type 0
Saw s departure = Contains s.departures.items departure

abbrev pub SawDepartureOf : RoundState → ℕ → Node → Type 0
SawDepartureOf s i n = Saw s n.departure

-- the label's further rides are settled, if its number is below the first and it may have more
abbrev pub IsScannedBelow : List Run → Edges → Request → RoundState → (first i : ℕ) → Node → Type 0
IsScannedBelow runs edges r s first i n = i < first → n.rides < r.rides → IsScanned runs edges r (bounds_of s) (InArena s.arena.items) (InFinals s.finals.items) (entry_of n)

-- Between two rounds for a departure, which is the last that was seen: the labels from a number on have so many rides, and are
-- still to be gone on from.
pub record IsRound (runs : List Run) (blocks : List (List LaneOf)) (edges : Edges) (r : Request) (departure : ℤ) (departures : List ℤ) (first rides : ℕ) (s : RoundState) : Type 0 where
  pub open_is : IsOpenAt r departure s
  pub egress : AreReached edges r.to s.aim.egress.items
  pub bounds : AreBounds blocks edges r (bounds_of s)
  pub departures_are : s.departures.items ≡ departures
  pub saw : Saw s departure
  pub sound : EachAt (IsLabelOf runs blocks edges r s.arena.items) s.arena.items
  pub seen : EachAt (SawDepartureOf s) s.arena.items
  pub round : EachAt (IsOfRound departure first rides) s.arena.items
  pub starts : AreStartsSettled runs edges r (bounds_of s) (InArena s.arena.items) (InFinals s.finals.items) (Saw s)
  pub scanned : EachAt (IsScannedBelow runs edges r s first) s.arena.items

-- each journey that departs at a moment which was seen has a value that some final's weakly dominates
abbrev pub AreFinalsEnough : List Run → Edges → Request → RoundState → Type 0
AreFinalsEnough runs edges r s = (v : Value) → IsOffered runs edges r v → Saw s v.departure → Any (λ f. IsNoWorse f.value v) s.finals.items

-- ---- what may be left out

-- a further ride, whichever is taken
pub record IsLostStop (r : Request) (s : RoundState) (b : Ready) : Type 0 where
  pub further : 2 ≤ b.rides
  pub lost : IsLostReady r (bounds_of s) (InFinals s.finals.items) (ready_entry b b.time)

-- a further ride of a block from a position, at the time or later
pub record IsLostFrom (r : Request) (s : RoundState) (b : Ready) (block position : ℕ) (time : ℤ) : Type 0 where
  pub further : 2 ≤ b.rides
  pub lost : IsLostPlace r (bounds_of s) (InFinals s.finals.items) block position (ready_entry b time)
