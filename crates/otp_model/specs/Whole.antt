-- Which journeys are best, the whole list of a request, and its pages. The best are the Pareto set of
-- departure, arrival, rides and cost, after Delling, Pajor and Werneck, "Round-Based Public Transit Routing".
use Rattle.std.specs.Prelude.{◌≡◌, ◌≢◌, ◌↔◌, ◌≤◌, ◌<◌, pos, ◌+ℤ◌, ◌≤ℤ◌, ◌<ℤ◌, List, Option, None, Some, Bool, true, IsTrue, take, length}
use Rattle.std.specs.List.{All, Any, AllPairs, filter}
use Rattle.std.specs.declared.cmp.Ordering.{Ordering}
use Rattle.std.specs.declared.cmp.Ordering.TheVariants.{Less}
use Rattle.std.specs.Ordering.{ordering_then, nat_cmp, int_cmp, is_lt}
use Rattle.otp_model.specs.declared.timetable.Run.{Run}
use Rattle.otp_model.specs.declared.timetable.Edges.{Edges}
use Rattle.otp_model.specs.declared.journey.Request.{Request}
use Rattle.otp_model.specs.declared.journey.Cursor.{Cursor}
use Rattle.otp_model.specs.declared.journey.Value.{Value}
use Rattle.otp_model.specs.declared.journey.Leg.{Leg}
use Rattle.otp_model.specs.declared.journey.Found.{Found}
use Rattle.otp_model.specs.Journeys.{IsJourney, HasValue}

-- a departs no earlier than b, arrives no later, has no more rides and costs no more
pub record IsNoWorse (a b : Value) : Type 0 where
  pub departs : b.departure ≤ℤ a.departure
  pub arrives : a.arrival ≤ℤ b.arrival
  pub rides : a.rides ≤ b.rides
  pub cost : a.cost ≤ b.cost

-- and they differ
abbrev pub Dominates : Value → Value → Type 0
Dominates a b = IsNoWorse a b × (a ≢ b)

-- the departure is in the window
pub record IsInWindow (r : Request) (v : Value) : Type 0 where
  pub not_before : r.time ≤ℤ v.departure
  pub not_after : v.departure <ℤ (r.time +ℤ pos r.window)

-- some journey that departs in the window has this value
pub record IsOffered (runs : List Run) (edges : Edges) (r : Request) (v : Value) : Type 0 where
  pub legs : List Leg
  pub journey : IsJourney runs edges r legs
  pub has : HasValue r legs v
  pub in_window : IsInWindow r v

-- and no such journey's value dominates it
pub record IsBest (runs : List Run) (edges : Edges) (r : Request) (v : Value) : Type 0 where
  pub offered : IsOffered runs edges r v
  pub undominated : (w : Value) → IsOffered runs edges r w → Dominates w v → ⊥

-- the order in which lists rise: by departure, then arrival, then rides, then cost
abbrev pub value_cmp : Value → Value → Ordering
value_cmp a b =
    ordering_then (int_cmp a.departure b.departure)
    (ordering_then (int_cmp a.arrival b.arrival) (ordering_then (nat_cmp a.rides b.rides) (nat_cmp a.cost b.cost)))

abbrev pub IsBelow : Value → Value → Type 0
IsBelow a b = value_cmp a b ≡ Less

-- The whole list of a request: it rises strictly, each entry is a journey with its value, each value is
-- one of the best, and each of the best is there.
pub record IsWhole (runs : List Run) (edges : Edges) (r : Request) (list : List Found) : Type 0 where
  pub rises : AllPairs (λ a b. IsBelow a.value b.value) list
  pub journeys : All (λ found. IsJourney runs edges r found.journey.legs × HasValue r found.journey.legs found.value) list
  pub best : All (λ found. IsBest runs edges r found.value) list
  pub all : (v : Value) → IsBest runs edges r v → Any (λ found. found.value ≡ v) list

-- whether a value is above a cursor's, if there is one
abbrev pub is_after : Option Cursor → Value → Bool
is_after None v = true
is_after (Some cursor) v = is_lt (value_cmp cursor.value v)

-- the entries of a list above the request's cursor
abbrev pub left_of : Request → List Found → List Found
left_of r whole = filter (λ found. is_after r.cursor found.value) whole

-- a page: the first entries above the cursor of a whole list, and whether there are more
pub record IsPage (runs : List Run) (edges : Edges) (r : Request) (list : List Found) (more : Bool) : Type 0 where
  pub whole : List Found
  pub is_whole : IsWhole runs edges r whole
  pub list_is : list ≡ take r.page (left_of r whole)
  pub more_is : IsTrue more ↔ (r.page < length (left_of r whole))
