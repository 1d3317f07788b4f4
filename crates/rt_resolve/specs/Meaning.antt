-- Updates that mean a call.
use Rattle.std.specs.Prelude.{IsTrue}
use Rattle.otp_model.specs.Moves.{is_event, Meant}
use Rattle.otp_model.specs.declared.message.StopUpdate.{StopUpdate}
use Rattle.rt_resolve.specs.declared.meaning.Meant.{Meant as MeantBy}

abbrev pub meant_of : MeantBy → Meant
meant_of meant = record { place = meant.place; update = meant.update.now }

-- an update whose events are in range
pub record HasEvents (update : StopUpdate) : Type 0 where
  pub arrival : IsTrue (is_event update.arrival)
  pub departure : IsTrue (is_event update.departure)

abbrev pub MeansWithEvents : MeantBy → Type 0
MeansWithEvents meant = HasEvents meant.update.now
