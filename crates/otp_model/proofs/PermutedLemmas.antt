-- Journeys, the best of them, and pages are the same over the runs of a schedule in any order.
use Rattle.std.proofs.Common.{ℕ, List, [], ◌∷◌, Bool}
use Rattle.std.specs.List.Sorted.{IsPermutation}
use Rattle.std.proofs.lemmas.List.Sorted.{Contains-permutation, IsPermutation-sym}
use Rattle.std.proofs.lemmas.List.Elements.{All-weaker}
use Rattle.otp_model.specs.Journeys.{Follows, HasValue, IsJourney, IsRide}
use Rattle.otp_model.specs.Whole.{IsBest, IsOffered, IsPage, IsWhole}
use Rattle.otp_model.specs.declared.journey.Found.{Found}
use Rattle.otp_model.specs.declared.journey.Leg.{Leg}
use Rattle.otp_model.specs.declared.journey.Leg.TheVariants.{Walk, Ride}
use Rattle.otp_model.specs.declared.journey.Request.{Request}
use Rattle.otp_model.specs.declared.journey.Value.{Value}
use Rattle.otp_model.specs.declared.run_name.RunName.{RunName}
use Rattle.otp_model.specs.declared.timetable.Call.{Call}
use Rattle.otp_model.specs.declared.timetable.Edges.{Edges}
use Rattle.otp_model.specs.declared.timetable.Run.{Run}

module _ (edges : Edges) (r : Request) where
  ride : (a b : List Run) → IsPermutation a b → (name : RunName) (board alight : Call) → IsRide a name board alight → IsRide b name board alight
  ride a b same name board alight h =
      record { run = h.run; on = Contains-permutation a b h.run same h.on; from = h.from; to = h.to; is = h.is }

  follows : (a b : List Run) → IsPermutation a b → (last : Call) (walk : ℕ) (legs : List Leg) → Follows a edges r last walk legs → Follows b edges r last walk legs
  follows a b same last walk [] h = h
  follows a b same last walk (Ride name board alight ∷ Walk next ∷ legs) h = (h.0, ride a b same name board alight h.1, follows a b same alight next legs h.2)
  follows a b same last walk (Ride n b' a' ∷ Ride n' b'' a'' ∷ legs) h = absurd h
  follows a b same last walk (Ride n b' a' ∷ []) h = absurd h
  follows a b same last walk (Walk w ∷ legs) h = absurd h

  pub journey_permuted : (a b : List Run) → IsPermutation a b → (legs : List Leg) → IsJourney a edges r legs → IsJourney b edges r legs
  journey_permuted a b same (Walk first ∷ Ride name board alight ∷ Walk next ∷ legs) h =
      (h.0, ride a b same name board alight h.1, follows a b same alight next legs h.2, h.3)
  journey_permuted a b same legs h = absurd h

  offered : (a b : List Run) → IsPermutation a b → (v : Value) → IsOffered a edges r v → IsOffered b edges r v
  offered a b same v h = record { legs = h.legs; journey = journey_permuted a b same h.legs h.journey; has = h.has; in_window = h.in_window }

  best : (a b : List Run) → IsPermutation a b → (v : Value) → IsBest a edges r v → IsBest b edges r v
  best a b same v h = record {
    offered = offered a b same v h.offered;
    undominated = λ w o d. h.undominated w (offered b a (IsPermutation-sym a b same) w o) d;
  }

  whole : (a b : List Run) → IsPermutation a b → (list : List Found) → IsWhole a edges r list → IsWhole b edges r list
  whole a b same list h = record {
    rises = h.rises;
    journeys = All-weaker (λ (found : Found). IsJourney a edges r found.journey.legs × HasValue r found.journey.legs found.value)
        (λ (found : Found). IsJourney b edges r found.journey.legs × HasValue r found.journey.legs found.value)
        (λ found k. (journey_permuted a b same found.journey.legs k.0, k.1)) list h.journeys;
    best = All-weaker (λ (found : Found). IsBest a edges r found.value) (λ (found : Found). IsBest b edges r found.value) (λ found k. best a b same found.value k) list h.best;
    all = λ v k. h.all v (best b a (IsPermutation-sym a b same) v k);
  }

  pub page_permuted : (a b : List Run) → IsPermutation a b → (list : List Found) (more : Bool) → IsPage a edges r list more → IsPage b edges r list more
  page_permuted a b same list more h = record { whole = h.whole; is_whole = whole a b same h.whole h.is_whole; list_is = h.list_is; more_is = h.more_is }
