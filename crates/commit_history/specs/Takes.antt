-- What an entering step tells.
use Rattle.std.specs.Prelude.{◌≡◌, ◌+◌, ◌^◌, ◌≤◌, length, IfSome, IfOk}
use Rattle.std.specs.Arc.{arc_value}
use Rattle.otp_model.specs.declared.timetable.Feed.{Feed}
use Rattle.commit_history.specs.Entries.{IsSnapshotOf}
use Rattle.commit_history.specs.Rules.{knowing, name_with}
use Rattle.commit_history.specs.declared.entering.Found.{Found}
use Rattle.commit_history.specs.declared.rule.Knowledge.{Knowledge}

-- the reader has entered once more, and what was found is of the history that it knows of
abbrev pub Takes : Knowledge → Knowledge → Found → Type 0
Takes before now found = (now ≡ knowing before.name (before.entered + 1)) × (found.number ≡ length found.seen.log) × (length found.seen.log ≤ 2 ^ 40)
    × IfSome before.name (λ name. (feed : Feed) × (name ≡ name_with feed found.seen.book) × IfOk found.snapshot (λ snapshot. IsSnapshotOf (arc_value snapshot) feed found.seen.log))
