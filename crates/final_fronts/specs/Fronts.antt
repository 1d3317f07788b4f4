-- Steps of journeys that were found, and what they beat.
use Rattle.std.specs.Prelude.{◌≡◌, ◌⊎◌, ℕ, ◌+◌, ◌^◌, ◌≤◌, ◌<◌, ℤ, pos, ◌+ℤ◌, ◌≤ℤ◌, List, Some, slice_get, slice_index_or}
use Rattle.std.specs.List.{Any, Contains}
use Rattle.otp_model.specs.Beginnings.{cost_at}
use Rattle.otp_model.specs.Rows.{IsWithin}
use Rattle.final_fronts.specs.declared.standing.Standing.{Standing}
use Rattle.final_fronts.specs.declared.step.Step.{Step}

-- the seconds to a destination that isn't reached
abbrev pub far : ℕ
far = 4294967295

-- some step arrives no later, at no greater a cost
abbrev pub IsPassed : List Step → ℤ → ℤ → Type 0
IsPassed steps arrival cost = Any (λ (step : Step). (step.arrival ≤ℤ arrival) × (step.cost ≤ℤ cost)) steps

-- of old ones and this step
abbrev pub HasOnly : List Step → Step → List Step → Type 0
HasOnly old step new = (x : Step) → Contains new x → Contains old x ⊎ (step ≡ x)

pub record IsStandingInRange (at : Standing) : Type 0 where
  pub departure : IsWithin (2 ^ 45) at.departure
  pub time : IsWithin (2 ^ 45) at.time
  pub penalty : at.penalty ≤ 2 ^ 50

-- arrival and cost after so many seconds and points more
abbrev pub step_after : Standing → (seconds points : ℕ) → Step
step_after at seconds points =
    let arrival = at.time +ℤ pos seconds in
    record { arrival = arrival; cost = cost_at at.departure arrival (at.penalty + points) }

-- with so many rides more, seconds and points, a step of its front is as good
pub record IsBeaten (fronts : List (List Step)) (at : Standing) (more seconds points : ℕ) : Type 0 where
  pub steps : List Step
  pub steps_are : slice_get fronts (at.rides + more) ≡ Some steps
  pub passed : let step = step_after at seconds points in IsPassed steps step.arrival step.cost

-- if the destination is reached so
abbrev pub IsBeatenOn : List (List Step) → Standing → (more seconds : ℕ) → List ℕ → Type 0
IsBeatenOn fronts at more seconds points = seconds < far → IsBeaten fronts at more seconds (slice_index_or points more 0)

-- on each level that has seconds
abbrev pub IsLostBy : List (List Step) → Standing → (last : ℕ) → (seconds points : List ℕ) → Type 0
IsLostBy fronts at last seconds points = (more least : ℕ) → at.rides + more ≤ last → slice_get seconds more ≡ Some least → IsBeatenOn fronts at more least points
