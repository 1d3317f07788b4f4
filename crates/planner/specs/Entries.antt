-- What an entry of a page is.
use Rattle.std.specs.Prelude.{List}
use Rattle.otp_model.specs.declared.journey.Found.{Found}
use Rattle.otp_model.specs.declared.journey.Request.{Request}
use Rattle.otp_model.specs.declared.timetable.Edges.{Edges}
use Rattle.otp_model.specs.declared.timetable.Run.{Run}
use Rattle.otp_model.specs.Journeys.{HasValue, IsJourney}
use Rattle.otp_model.specs.Whole.{IsInWindow}

-- a journey of the runs, with its value, that departs in the request's window
pub record IsEntry (runs : List Run) (edges : Edges) (r : Request) (found : Found) : Type 0 where
  pub journey : IsJourney runs edges r found.journey.legs
  pub has : HasValue r found.journey.legs found.value
  pub in_window : IsInWindow r found.value
