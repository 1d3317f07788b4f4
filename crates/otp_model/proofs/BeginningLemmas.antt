-- A beginning and what may follow it make a journey; each journey is a beginning and a walk to the destination.
use Rattle.std.proofs.Common.{◌≡◌, ℕ, ◌+◌, ◌-◌, ◌*◌, ◌≤◌, ℤ, pos, ◌+ℤ◌, ◌-ℤ◌, ◌*ℤ◌, List, [], ◌∷◌, length, refl, ◌∙◌, arith}
use Rattle.std.proofs.lemmas.Int.{ints}
use Rattle.otp_model.specs.Limits.{least_walk_points}
use Rattle.otp_model.specs.declared.timetable.Run.{Run}
use Rattle.otp_model.specs.declared.timetable.Edges.{Edges}
use Rattle.otp_model.specs.declared.journey.Request.{Request}
use Rattle.otp_model.specs.declared.journey.Leg.{Leg}
use Rattle.otp_model.specs.declared.journey.Leg.TheVariants.{Walk, Ride}
use Rattle.otp_model.specs.Plane.{IsReached}
use Rattle.otp_model.specs.Journeys.{Follows, IsJourney, rides_of, walked_of, departure_of, arrival_after, arrival_of, cost_of}
use Rattle.otp_model.specs.Beginnings.{Hop, IsBeginning, legs_onto, departs, walked, penalty, walk_penalty, cost_at}

-- ---- the numbers of a beginning's legs before others

abbrev pub with_ride : Hop → List Leg → List Leg
with_ride h legs = Walk h.walk ∷ Ride h.name h.board h.alight ∷ legs

pub rides_onto : (hops : List Hop) (legs : List Leg) → rides_of (legs_onto hops legs) ≡ length hops + rides_of legs
rides_onto [] legs = omega arith
rides_onto (h ∷ hops) legs = omega (arith, rides_onto hops (with_ride h legs))

pub walked_onto : (hops : List Hop) (legs : List Leg) → walked_of (legs_onto hops legs) ≡ walked hops + walked_of legs
walked_onto [] legs = omega arith
walked_onto (h ∷ hops) legs = omega (arith, walked_onto hops (with_ride h legs))

pub arrival_onto : (h : Hop) (hops : List Hop) (t : ℤ) (legs : List Leg) → arrival_after t (legs_onto (h ∷ hops) legs) ≡ arrival_after h.alight.arrival legs
arrival_onto h [] t legs = refl
arrival_onto h (g ∷ hops) t legs = arrival_onto g hops t (with_ride h legs)

pub departure_onto : (h : Hop) (hops : List Hop) (legs : List Leg) → departure_of (legs_onto (h ∷ hops) legs) ≡ departs (h ∷ hops)
departure_onto h [] legs = refl
departure_onto h (g ∷ hops) legs = departure_onto g hops (with_ride h legs)

-- the penalty by what is walked and boarded in all
pub penalty_is : (r : Request) (hops : List Hop) → penalty r hops ≡ walk_penalty r (walked hops) + r.board_points * length hops
penalty_is r [] = omega arith
penalty_is r (h ∷ hops) = grind (arith, penalty_is r hops)

cost_by_penalty : (points board x w e n p : ℕ) (d t : ℤ) → least_walk_points ≤ points → x ≡ w + e → p ≡ (points - least_walk_points) * w + board * n
    → ((pos 100 *ℤ (t -ℤ d)) +ℤ (((pos points -ℤ pos 100) *ℤ pos x) +ℤ (pos board *ℤ pos n))) ≡ cost_at d t (p + (points - least_walk_points) * e)
cost_by_penalty points board x w e n p d t enough x_is p_is = rw (x_is, p_is) (go (points - least_walk_points) (omega arith))
  where
    go : (m : ℕ) → points ≡ m + least_walk_points
        → ((pos 100 *ℤ (t -ℤ d)) +ℤ (((pos points -ℤ pos 100) *ℤ pos (w + e)) +ℤ (pos board *ℤ pos n))) ≡ cost_at d t ((m * w + board * n) + m * e)
    go m h = rw h (grind (arith, ints))

-- the cost of a journey by its beginning's penalty
pub cost_onto : (r : Request) (h : Hop) (hops : List Hop) (egress : ℕ) → least_walk_points ≤ r.walk_points
    → cost_of r (legs_onto (h ∷ hops) (Walk egress ∷ [])) ≡ cost_at (departs (h ∷ hops)) (h.alight.arrival +ℤ pos egress) (penalty r (h ∷ hops) + walk_penalty r egress)
cost_onto r h hops egress enough =
    let end : List Leg = Walk egress ∷ [] in
    let legs = legs_onto (h ∷ hops) end in
    let rides : rides_of legs ≡ length (h ∷ hops) = rides_onto (h ∷ hops) end ∙ omega arith in
    let on_foot : walked_of legs ≡ walked (h ∷ hops) + egress = walked_onto (h ∷ hops) end ∙ omega arith in
    let from : departure_of legs ≡ departs (h ∷ hops) = departure_onto h hops end in
    let till : arrival_of legs ≡ h.alight.arrival +ℤ pos egress = arrival_onto h hops (pos 0) end in
    rw (from, till, rides)
    (cost_by_penalty r.walk_points r.board_points (walked_of legs) (walked (h ∷ hops)) egress (length (h ∷ hops)) (penalty r (h ∷ hops)) (departs (h ∷ hops)) (h.alight.arrival +ℤ pos egress) enough on_foot (penalty_is r (h ∷ hops)))

module _ (runs : List Run) (edges : Edges) (r : Request) where
  -- a beginning and what may follow it are a journey
  pub joined : (h : Hop) (hops : List Hop) (walk : ℕ) (legs : List Leg) → IsBeginning runs edges r (h ∷ hops) → Follows runs edges r h.alight walk legs
      → length (h ∷ hops) + rides_of legs ≤ r.rides → IsJourney runs edges r (legs_onto (h ∷ hops) (Walk walk ∷ legs))
  joined h [] walk legs begins follows few = (begins.0, begins.1, follows, omega arith)
  joined h (g ∷ hops) walk legs begins follows few =
      joined g hops h.walk (Ride h.name h.board h.alight ∷ Walk walk ∷ legs) begins.2 (begins.0, begins.1, follows) (omega arith)

  -- the legs are a beginning and the walk from it to the destination
  pub record IsSplit (legs : List Leg) : Type 0 where
    pub last : Hop
    pub rest : List Hop
    pub begins : IsBeginning runs edges r (last ∷ rest)
    pub few : length (last ∷ rest) ≤ r.rides
    pub egress : ℕ
    pub reached : IsReached edges r.to last.alight.stop egress
    pub same : legs_onto (last ∷ rest) (Walk egress ∷ []) ≡ legs

  grown : (h : Hop) (hops : List Hop) (walk : ℕ) (legs : List Leg) → IsBeginning runs edges r (h ∷ hops) → Follows runs edges r h.alight walk legs
      → length (h ∷ hops) + rides_of legs ≤ r.rides → IsSplit (legs_onto (h ∷ hops) (Walk walk ∷ legs))
  grown h hops walk [] begins follows few = record { last = h; rest = hops; begins = begins; few = omega arith; egress = walk; reached = follows; same = refl }
  grown h hops walk (Ride name board alight ∷ Walk next ∷ legs) begins follows few =
      grown (record { walk = walk; name = name; board = board; alight = alight }) (h ∷ hops) next legs (follows.0, follows.1, begins) follows.2 (omega arith)
  grown h hops walk (Ride name board alight ∷ Ride n b a ∷ legs) begins follows few = absurd follows
  grown h hops walk (Ride name board alight ∷ []) begins follows few = absurd follows
  grown h hops walk (Walk seconds ∷ legs) begins follows few = absurd follows

  pub split : (legs : List Leg) → IsJourney runs edges r legs → IsSplit legs
  split (Walk first ∷ Ride name board alight ∷ Walk next ∷ legs) j =
      grown (record { walk = first; name = name; board = board; alight = alight }) [] next legs (j.0, j.1) j.2 (omega (arith, j.3))
  split (Walk first ∷ Ride name board alight ∷ Ride n b a ∷ legs) j = absurd j
  split (Walk first ∷ Ride name board alight ∷ []) j = absurd j
  split (Walk first ∷ Walk seconds ∷ legs) j = absurd j
  split (Walk first ∷ []) j = absurd j
  split (Ride name board alight ∷ legs) j = absurd j
  split [] j = absurd j
