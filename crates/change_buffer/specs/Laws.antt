-- What holds of every schedule after a history.
use Rattle.std.specs.Prelude.{List}
use Rattle.std.specs.List.{AllPairs}
use Rattle.otp_model.specs.Schedule.{sched}
use Rattle.otp_model.specs.Sound.{IsRunBelow, IsSound}
use Rattle.otp_model.specs.declared.message.Commit.{Commit}
use Rattle.otp_model.specs.declared.timetable.Feed.{Feed}

-- its runs stand in the order of their names, so no two of them have one name
abbrev pub SchedulesRise : Type 0
SchedulesRise = (feed : Feed) (history : List Commit) → IsSound feed → AllPairs IsRunBelow (sched feed history)
