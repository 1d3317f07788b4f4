-- Rides, and the places of their calls.
use Rattle.std.proofs.Common.{arith, ℕ, ◌<◌, ◌≤◌, List, [], length, inl, inr, take, ◌↔◌}
use Rattle.std.specs.List.{Contains}
use Rattle.std.proofs.lemmas.List.{take_all}
use Rattle.std.proofs.lemmas.Option.{slice_get_within}
use Rattle.otp_model.specs.declared.timetable.Run.{Run}
use Rattle.plain_search.specs.declared.rides.Ride.{Ride}
use Rattle.otp_base.specs.Adds.{Adds, FromBelow, FromSome}
use Rattle.plain_search.specs.Rides.{IsRideBetween, IsRideFrom, IsRideIn, IsRideAmong}
use Rattle.otp_base.proofs.AddsLemmas.{adds_as}

-- all calls after the first were tried
pub adds_from_all : (run : Run) (from to : ℕ) (xs ys : List Ride) → length run.calls ≤ to → Adds (FromBelow (IsRideBetween run from) to) xs ys → Adds (IsRideFrom run from) xs ys
adds_from_all run from to xs ys l = adds_as (FromBelow (IsRideBetween run from) to) (IsRideFrom run from) xs ys
    (λ x h. (h.0, h.2))
    (λ x h. (h.0, (let k : h.0 < length run.calls = slice_get_within run.calls h.0 x.alight h.1.alights in omega arith), h.1))

-- all calls were tried as the first
pub adds_in_all : (run : Run) (from : ℕ) (xs ys : List Ride) → length run.calls ≤ from → Adds (FromBelow (IsRideFrom run) from) xs ys → Adds (IsRideIn run) xs ys
adds_in_all run from xs ys l = adds_as (FromBelow (IsRideFrom run) from) (IsRideIn run) xs ys
    (λ x h. (h.0, h.2))
    (λ x h. (h.0, (let k : h.0 < length run.calls = slice_get_within run.calls h.0 x.board h.1.1.boards in omega arith), h.1))

-- all runs were tried
pub rides_of_all : (runs : List Run) (i : ℕ) (ys : List Ride) → length runs ≤ i → Adds (FromSome IsRideIn (take i runs)) [] ys → (ride : Ride) → Contains ys ride ↔ IsRideAmong runs ride
rides_of_all runs i ys l a ride = (there, back)
  where
    there : Contains ys ride → IsRideAmong runs ride
    there k = elim (a.only ride k) [ inl z ↦ absurd (omega (arith, z.1)) | inr h ↦ record { run = h.0; on = (rw (take_all i runs l) at h.1); from = h.2.0; to = h.2.1.0; is = h.2.1.1 } ]

    back : IsRideAmong runs ride → Contains ys ride
    back h = a.added ride (h.run, rw (take_all i runs l) h.on, (h.from, (h.to, h.is)))
