use Rattle.otp_base.specs.Adds.{FromBelow}
use Rattle.raptor_rounds.specs.Rides.{CatchesIn, IsRiddenInBlock}
use Rattle.raptor_rounds.specs.States.{Settles}
use Rattle.raptor_rounds.proofs.board.board_lanes.Given as goal

abbrev pub invariant-loop-number : goal.invariant-loop-number
invariant-loop-number l = Settles l.request l.ready.departure (FromBelow (CatchesIn l.lanes l.ready l.place.position) l.number) (IsRiddenInBlock l.lanes l.ready l.place.block) l.initial.state l.state
