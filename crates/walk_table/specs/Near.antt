-- Stops from south to north, and to which of them there may be an edge.
use Rattle.std.specs.Prelude.{◌≡◌, ℕ, ◌+◌, ◌≤◌, ◌<◌, ℤ, ◌-ℤ◌, unsigned_abs, List, length, Some, slice_get}
use Rattle.std.specs.List.{All, Contains}
use Rattle.std.specs.List.Sorted.{IsNonDecreasingBy, IsStrictlyIncreasing}
use Rattle.otp_model.specs.declared.links.TransferRow.{TransferRow}
use Rattle.otp_model.specs.declared.timetable.Edge.{Edge}
use Rattle.otp_model.specs.declared.timetable.Profile.{Profile}
use Rattle.otp_model.specs.declared.timetable.Stop.{Stop}
use Rattle.walk_table.specs.Rows.{IsEdgeTo}
use Rattle.otp_base.specs.EachAt.{EachAt}
use Rattle.walk_table.specs.declared.near.Standing.{Standing}

-- the standing of a stop, north of a place that is north of no stop
abbrev pub standing_of : ℤ → ℕ → Stop → Standing
standing_of south number stop = record { north = unsigned_abs (stop.y -ℤ south); number = number }

-- the standing of the stop at this place of the list
abbrev pub IsStandingAt : ℤ → List Stop → ℕ → Standing → Type 0
IsStandingAt south stops place standing = (stop : Stop) × (slice_get stops place ≡ Some stop) × (standing ≡ standing_of south place stop)

-- the standings of all stops, from south to north
pub record AreStandings (south : ℤ) (stops : List Stop) (standings : List Standing) : Type 0 where
  pub rise : IsNonDecreasingBy (λ (standing : Standing). standing.north) standings
  pub has : (number : ℕ) (stop : Stop) → slice_get stops number ≡ Some stop → Contains standings (standing_of south number stop)
  pub within : All (λ (standing : Standing). standing.number < length stops) standings

-- the numbers of the standings from a place of the list on that are no farther north
abbrev pub AreNumbersFrom : List Standing → ℕ → ℕ → List ℕ → Type 0
AreNumbersFrom standings start high numbers =
    ((place : ℕ) (standing : Standing) → start ≤ place → slice_get standings place ≡ Some standing → standing.north ≤ high → Contains numbers standing.number)
    × ((number : ℕ) → Contains numbers number → (standing : Standing) × Contains standings standing × (number ≡ standing.number))

-- no farther apart than the reach
abbrev pub IsAround : ℕ → ℕ → ℕ → Type 0
IsAround reach a b = (a ≤ b + reach) × (b ≤ a + reach)

-- numbers of standings, by rising number, with all that are around a place
pub record AreNumbersAround (standings : List Standing) (north reach : ℕ) (numbers : List ℕ) : Type 0 where
  pub rise : IsStrictlyIncreasing numbers
  pub has : (standing : Standing) → Contains standings standing → IsAround reach north standing.north → Contains numbers standing.number
  pub only : (number : ℕ) → Contains numbers number → (standing : Standing) × Contains standings standing × (number ≡ standing.number)

-- so many numbers, from 0 on
pub record AreAllNumbers (count : ℕ) (numbers : List ℕ) : Type 0 where
  pub count_is : length numbers ≡ count
  pub each : EachAt (λ place number. number ≡ place) numbers

-- stops by rising number, with all those that there is an edge to from the stop with the number p
pub record AreCandidates (stops : List Stop) (rows : List TransferRow) (profile : Profile) (p : ℕ) (from : Stop) (numbers : List ℕ) : Type 0 where
  pub rise : IsStrictlyIncreasing numbers
  pub has : (n : ℕ) (to : Stop) (edge : Edge) → slice_get stops n ≡ Some to → IsEdgeTo stops rows profile p from n to edge → Contains numbers n
  pub within : All (λ n. n < length stops) numbers
