-- The best of a list of offers, and when that is the whole list of a schedule.
use Rattle.std.specs.Prelude.{◌≡◌, ◌⊎◌, List, [], ◌∷◌, ◌++◌}
use Rattle.std.specs.List.{AllPairs, Any, Contains}
use Rattle.otp_model.specs.declared.timetable.Run.{Run}
use Rattle.otp_model.specs.declared.timetable.Edges.{Edges}
use Rattle.otp_model.specs.declared.journey.Request.{Request}
use Rattle.otp_model.specs.declared.journey.Value.{Value}
use Rattle.otp_model.specs.declared.journey.Found.{Found}
use Rattle.otp_model.specs.Journeys.{HasValue, IsJourney}
use Rattle.otp_model.specs.Whole.{Dominates, IsBelow, IsInWindow, IsNoWorse, IsOffered}

-- some offer dominates the value
abbrev pub IsBeaten : List Found → Value → Type 0
IsBeaten offers v = (y : Found) × Contains offers y × Dominates y.value v

-- the list rises, has offers alone of which none is beaten, and one for each value that is not beaten
pub record IsFront (offers list : List Found) : Type 0 where
  pub rises : AllPairs (λ a b. IsBelow a.value b.value) list
  pub from : (x : Found) → Contains list x → Contains offers x
  pub unbeaten : (x : Found) → Contains list x → IsBeaten offers x.value → ⊥
  pub all : (x : Found) → Contains offers x → (IsBeaten offers x.value → ⊥) → Any (λ found. found.value ≡ x.value) list

-- The offers are journeys in the window with their values, and each value that a journey in the window
-- has is met or improved on by one of them.
pub record AreEnough (runs : List Run) (edges : Edges) (r : Request) (offers : List Found) : Type 0 where
  pub journey : (found : Found) → Contains offers found → IsJourney runs edges r found.journey.legs
  pub value : (found : Found) → Contains offers found → HasValue r found.journey.legs found.value
  pub in_window : (found : Found) → Contains offers found → IsInWindow r found.value
  pub met : (v : Value) → IsOffered runs edges r v → Any (λ found. IsNoWorse found.value v) offers

-- none of the values dominates this one, and no entry of the list has it
abbrev pub IsWanted : List Value → List Found → Value → Type 0
IsWanted values list v = (Any (λ w. Dominates w v) values → ⊥) × (Any (λ found. found.value ≡ v) list → ⊥)

-- one of the values dominates this one, or an entry of the list has it
abbrev pub IsPassed : List Value → List Found → Value → Type 0
IsPassed values list v = Any (λ w. Dominates w v) values ⊎ Any (λ found. found.value ≡ v) list

-- the offer is put at the end where it is wanted, else passed over
abbrev pub IsKeptOrPassed : List Value → List Found → Found → List Found → Type 0
IsKeptOrPassed values old offer new =
    ((new ≡ old ++ offer ∷ []) × IsWanted values old offer.value) ⊎ ((new ≡ old) × IsPassed values old offer.value)
