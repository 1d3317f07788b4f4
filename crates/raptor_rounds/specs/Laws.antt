-- What the bags of a state say of beginnings of journeys.
use Rattle.std.specs.Prelude.{◌⊎◌, ℕ, ◌≤◌, pos, List, ◌∷◌, length}
use Rattle.otp_model.specs.Beginnings.{Hop, IsBeginning, departs}
use Rattle.otp_model.specs.Ranges.{CanSearch}
use Rattle.otp_model.specs.declared.journey.Request.{Request}
use Rattle.otp_model.specs.declared.timetable.Edges.{Edges}
use Rattle.otp_model.specs.declared.timetable.Run.{Run}
use Rattle.label_bags.specs.Bags.{IsCovered}
use Rattle.trip_patterns.specs.Lanes.{LaneOf}
use Rattle.trip_patterns.specs.Timetables.{StandsFor}
use Rattle.raptor_rounds.specs.declared.state.RoundState.{RoundState}
use Rattle.raptor_rounds.specs.Closure.{Entry, IsLostEntry, entry_of_hops}
use Rattle.raptor_rounds.specs.Labels.{InFinals}
use Rattle.raptor_rounds.specs.States.{Saw, bounds_of, finals_of, labels_of}
use Rattle.raptor_rounds.specs.Searched.{IsSearched}

-- the labels of its stop for some number of rides, which is no greater, cover its time and penalty
pub record IsInBags (s : RoundState) (e : Entry) : Type 0 where
  pub rides : ℕ
  pub some : 1 ≤ rides
  pub few : rides ≤ e.rides
  pub covered : IsCovered (labels_of s e.stop rides) e.time (pos e.penalty)

-- After rounds over blocks that stand for a schedule each beginning of a journey with no more rides than asked for, at a departure that was seen, is in the bags or lost.
abbrev pub BagsCover : Type 0
BagsCover =
    (runs : List Run) (blocks : List (List LaneOf)) (edges : Edges) (r : Request) (s : RoundState) → StandsFor blocks runs → CanSearch runs edges r → IsSearched runs blocks edges r s
    → (h : Hop) (hops : List Hop) → IsBeginning runs edges r (h ∷ hops) → Saw s (departs (h ∷ hops)) → length (h ∷ hops) ≤ r.rides
    → IsInBags s (entry_of_hops r h hops) ⊎ IsLostEntry r (bounds_of s) (InFinals (finals_of s)) (entry_of_hops r h hops)
