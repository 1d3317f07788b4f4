-- First rides, and the moments at which journeys depart.
use Rattle.std.proofs.Common.{◌≡◌, ℤ, pos, ◌+ℤ◌, ◌≤ℤ◌, List, subst, arith}
use Rattle.std.specs.List.{All}
use Rattle.std.proofs.lemmas.Int.{ints}
use Rattle.std.proofs.lemmas.List.Elements.{All-contains}
use Rattle.otp_model.specs.Ranges.{IsCallInRange, IsTime, IsTimely}
use Rattle.otp_model.specs.declared.journey.Request.{Request}
use Rattle.otp_model.specs.declared.timetable.Run.{Run}
use Rattle.trip_patterns.specs.Lanes.{LaneOf}
use Rattle.walk_table.specs.declared.reach.Reach.{Reach}
use Rattle.raptor_rounds.specs.declared.ready.Ready.{Ready}
use Rattle.raptor_rounds.specs.declared.state.RoundState.{RoundState}
use Rattle.raptor_rounds.specs.Closure.{Entry}
use Rattle.raptor_rounds.specs.Rides.{Boards, IsRidden, ready_at}
use Rattle.raptor_rounds.specs.Scans.{IsStartedBy, StartsBy}
use Rattle.raptor_rounds.specs.States.{Settles}
use Rattle.raptor_rounds.proofs.LaneLemmas.{all_at}

same_time : (t u : ℤ) → t ≤ℤ u → u ≤ℤ t → u ≡ t
same_time t u a b = omega (arith, ints, a, b)

-- where rides aren't searched, none begins
pub starts_nowhere : (runs : List Run) (r : Request) (d : ℤ) (reach : Reach) → All IsTimely runs → (IsTime (d +ℤ pos reach.seconds) → ⊥) → (e : Entry) → StartsBy runs r d reach e → ⊥
starts_nowhere runs r d reach timely never e q =
    let h = q.hop in
    let ride = q.ride in
    let is = ride.is in
    let run = All-contains IsTimely runs ride.run timely ride.on in
    let t = q.in_time in
    let time : IsTime h.board.departure = (all_at IsCallInRange (ride.run).calls ride.from h.board run.in_range is.boards).1 in
    never (subst IsTime (same_time (d +ℤ pos reach.seconds) h.board.departure t.not_before t.until) time)

pub settles_start : (runs : List Run) (blocks : List (List LaneOf)) (r : Request) (d : ℤ) (reach : Reach) (b : Ready) (old new : RoundState) → b ≡ ready_at r d reach
    → Settles r b.departure (Boards runs b) (IsRidden blocks b) old new → Settles r d (StartsBy runs r d reach) (IsStartedBy blocks r d reach) old new
settles_start runs blocks r d reach b old new is s = subst (λ (x : Ready). Settles r x.departure (Boards runs x) (IsRidden blocks x) old new) is s
