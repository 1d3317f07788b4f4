use Rattle.std.proofs.Common.{◌≡◌, string_bytes}
use Rattle.feed_gen.specs.Tables.{route_row}
use Rattle.feed_gen.specs.Texts.{joined}
use Rattle.feed_gen.proofs.tables.route_rows.Given as goal

abbrev pub invariant-loop-line : goal.invariant-loop-line
invariant-loop-line l = string_bytes l.rows ≡ joined route_row l.line
