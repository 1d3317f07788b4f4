use Rattle.std.proofs.Common.{take}
use Rattle.otp_base.specs.Adds.{FromSome}
use Rattle.walk_table.specs.Edges.{IsGreatest}
use Rattle.walk_table.specs.Rows.{IsMinimum}
use Rattle.walk_table.proofs.rows.greatest_minimum.Given as goal

abbrev pub invariant-loop-row : goal.invariant-loop-row
invariant-loop-row l = IsGreatest (FromSome (IsMinimum l.stops l.at.number l.at.stop.now) (take l.row-index l.rows)) l.greatest
