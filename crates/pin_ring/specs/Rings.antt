-- What holds of the views that are kept.
use Rattle.std.specs.Prelude.{◌≡◌, ◌≤◌, List, [], length, map, unwrap_or}
use Rattle.std.specs.Arc.{arc_value}
use Rattle.std.specs.Global.{Vec}
use Rattle.std.specs.List.{All}
use Rattle.std.specs.Vec.{vec_capacity}
use Rattle.otp_model.specs.Core.{History, first_known, most_kept}
use Rattle.otp_model.specs.declared.timetable.Feed.{Feed}
use Rattle.commit_history.specs.Entries.{IsEntry}
use Rattle.pin_ring.specs.Kept.{AreRising}
use Rattle.pin_ring.specs.declared.pin.Pin.{Pin}

-- the history that a kept view stands for: the one that its pass knew first
abbrev pub history_of : Pin → History
history_of pin = unwrap_or (first_known pin.pass.value.known) []

abbrev pub histories_of : List Pin → List History
histories_of pins = map history_of pins

abbrev pub IsPin : Feed → Pin → Type 0
IsPin feed pin = IsEntry feed (history_of pin) pin.view.number (arc_value pin.view.snapshot)

-- each view stands for its history, the histories rise, and there is room for so many as are kept
pub record IsRing (feed : Feed) (pins : Vec Pin) : Type 0 where
  pub views : All (IsPin feed) pins.items
  pub rising : AreRising (histories_of pins.items)
  pub few : length pins.items ≤ most_kept
  pub room : vec_capacity pins ≡ most_kept
