-- What is offered: each journey that departs in the window, with its value.
use Rattle.std.specs.Prelude.{◌≡◌, ℕ, ◌≤◌, ◌+◌, ◌≤ℤ◌, List, [], ◌∷◌, length}
use Rattle.std.specs.List.{All}
use Rattle.otp_base.specs.Adds.{FromSome}
use Rattle.otp_model.specs.declared.timetable.Run.{Run}
use Rattle.otp_model.specs.declared.timetable.Edges.{Edges}
use Rattle.otp_model.specs.declared.journey.Request.{Request}
use Rattle.otp_model.specs.declared.journey.Found.{Found}
use Rattle.otp_model.specs.declared.journey.Leg.{Leg}
use Rattle.otp_model.specs.declared.journey.Leg.TheVariants as leg
use Rattle.otp_model.specs.Journeys.{HasValue, arrival_after}
use Rattle.otp_model.specs.Ranges.{IsLegInRange}
use Rattle.otp_model.specs.Whole.{IsInWindow}
use Rattle.walk_table.specs.declared.reach.Reach.{Reach}
use Rattle.plain_search.specs.Tails.{IsTailOf}

-- the first ride boards at this stop
abbrev pub Boards : ℕ → List Leg → Type 0
Boards stop [] = ⊥
Boards stop (leg.Walk seconds ∷ legs) = ⊥
Boards stop (leg.Ride name board alight ∷ legs) = board.stop ≡ stop

-- a walk to the first stop of a tail, with the tail, has this value and departs in the window
abbrev pub IsOffer : Request → List Leg → Reach → Found → Type 0
IsOffer r tail reach found =
    Boards reach.stop tail × (found.journey.legs ≡ leg.Walk reach.seconds ∷ tail) × HasValue r (leg.Walk reach.seconds ∷ tail) found.value × IsInWindow r found.value

-- one of the walks to the first stop makes it
abbrev pub IsOfferBy : Request → List Reach → List Leg → Found → Type 0
IsOfferBy r access tail found = FromSome (IsOffer r tail) access found

-- the legs arrive no earlier than their first ride departs
abbrev pub ArrivesAfter : List Leg → Type 0
ArrivesAfter [] = Unit {0}
ArrivesAfter (leg.Walk seconds ∷ legs) = Unit {0}
ArrivesAfter (leg.Ride name board alight ∷ legs) = board.departure ≤ℤ arrival_after alight.arrival legs

-- few legs with times in range, so that a journey that ends in them has a value
pub record IsValued (legs : List Leg) : Type 0 where
  pub few : length legs ≤ 16
  pub in_range : All IsLegInRange legs
  pub forward : ArrivesAfter legs

-- an offer with a number of rides that is one more than k
abbrev pub IsOfferWith : List Run → Edges → Request → List Reach → ℕ → Found → Type 0
IsOfferWith runs edges r access k found = (tail : List Leg) × IsTailOf runs edges r (k + 1) tail × IsOfferBy r access tail found
