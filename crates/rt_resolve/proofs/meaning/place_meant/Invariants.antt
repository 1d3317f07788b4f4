use Rattle.std.proofs.Common.{◌≡◌, drop}
use Rattle.std.specs.List.{position_from}
use Rattle.otp_model.specs.Moves.{means}
use Rattle.rt_resolve.proofs.meaning.place_meant.Given as goal

abbrev pub invariant-loop-place : goal.invariant-loop-place
invariant-loop-place l =
    position_from (means l.stops l.update) l.place (drop l.place l.calls) ≡ position_from (means l.stops l.update) l.from (drop l.from l.calls)
