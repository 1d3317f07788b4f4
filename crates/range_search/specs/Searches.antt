-- What a search over several departures found, and the journeys that it offers.
use Rattle.std.specs.Prelude.{◌≡◌, ◌↔◌, ℕ, ◌≤◌, ℤ, List, Some, slice_get}
use Rattle.std.specs.List.{All, Contains}
use Rattle.otp_base.specs.Adds.{FromSome}
use Rattle.otp_model.specs.Limits.{least_walk_points}
use Rattle.otp_model.specs.declared.journey.Found.{Found}
use Rattle.otp_model.specs.declared.journey.Request.{Request}
use Rattle.otp_model.specs.declared.timetable.Edges.{Edges}
use Rattle.otp_model.specs.declared.timetable.Run.{Run}
use Rattle.trip_patterns.specs.Lanes.{LaneOf}
use Rattle.raptor_rounds.specs.declared.node.Final.{Final}
use Rattle.raptor_rounds.specs.declared.state.RoundState.{RoundState}
use Rattle.raptor_rounds.specs.Labels.{HasChain, IsFound}
use Rattle.raptor_rounds.specs.States.{AreFinalsEnough, arena_of, departures_of, finals_of}
use Rattle.raptor_rounds.specs.Searched.{IsSearched}

-- one of the moments from a place of the list on
abbrev pub IsMomentAfter : List ℤ → ℕ → ℤ → Type 0
IsMomentAfter moments first t = (k : ℕ) × (first ≤ k) × (slice_get moments k ≡ Some t)

-- the moments from a place of the list on were searched, and no others
pub record AreSearched (runs : List Run) (blocks : List (List LaneOf)) (edges : Edges) (r : Request) (moments : List ℤ) (first : ℕ) (s : RoundState) : Type 0 where
  pub searched : IsSearched runs blocks edges r s
  pub finals : AreFinalsEnough runs edges r s
  pub seen : (t : ℤ) → Contains (departures_of s) t ↔ IsMomentAfter moments first t

-- the rides of the final's label are kept
abbrev pub IsKept : List (List LaneOf) → RoundState → Final → Type 0
IsKept blocks s f = HasChain blocks (arena_of s) f.label

-- The offer has the final's value, and is a journey of it where the state is one of a search over some edges and request.
pub record IsOfferOf (runs : List Run) (blocks : List (List LaneOf)) (s : RoundState) (f : Final) (offer : Found) : Type 0 where
  pub value_is : offer.value ≡ f.value
  pub found : (edges : Edges) (r : Request) → least_walk_points ≤ r.walk_points → IsSearched runs blocks edges r s → Contains (finals_of s) f → IsFound runs edges r offer.value offer.journey.legs

-- each offer is of one of these finals, and each of them has an offer
pub record AreOffers (runs : List Run) (blocks : List (List LaneOf)) (s : RoundState) (finals : List Final) (offers : List Found) : Type 0 where
  pub only : All (FromSome (IsOfferOf runs blocks s) finals) offers
  pub has : (f : Final) → Contains finals f → (offer : Found) × Contains offers offer × (offer.value ≡ f.value)
