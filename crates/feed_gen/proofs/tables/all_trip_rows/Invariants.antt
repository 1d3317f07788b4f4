use Rattle.std.proofs.Common.{◌≡◌, string_bytes}
use Rattle.feed_gen.specs.Tables.{trip_rows}
use Rattle.feed_gen.specs.Texts.{joined}
use Rattle.feed_gen.proofs.tables.all_trip_rows.Given as goal

abbrev pub invariant-loop-line : goal.invariant-loop-line
invariant-loop-line l = string_bytes l.rows ≡ joined trip_rows l.line
