use Rattle.std.proofs.Common.{take, []}
use Rattle.otp_base.specs.Adds.{Adds, FromSome}
use Rattle.walk_table.specs.Rows.{IsLeaving}
use Rattle.walk_table.proofs.rows.rows_from.Given as goal

abbrev pub invariant-loop-row : goal.invariant-loop-row
invariant-loop-row l = Adds (FromSome (IsLeaving l.stops l.from.number l.from.stop.now) (take l.row-index l.transfers)) [] l.rows.items
