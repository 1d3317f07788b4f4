use Rattle.otp_base.specs.Adds.{FromBelow}
use Rattle.raptor_rounds.specs.Rides.{AlightsAt, IsRiddenOn}
use Rattle.raptor_rounds.specs.States.{Settles}
use Rattle.raptor_rounds.proofs.ride.ride.Given as goal

abbrev pub invariant-loop-to : goal.invariant-loop-to
invariant-loop-to l = Settles l.request l.ready.departure (FromBelow (AlightsAt l.lane l.ready l.at.position l.row) l.to) (IsRiddenOn l.lane l.ready l.at.block l.at.lane) l.initial.state l.state
