use Rattle.std.proofs.Common.{◌≡◌, string_bytes}
use Rattle.feed_gen.specs.Tables.{trip_row}
use Rattle.feed_gen.specs.Texts.{joined}
use Rattle.feed_gen.proofs.tables.trip_rows.Given as goal

abbrev pub invariant-loop-trip : goal.invariant-loop-trip
invariant-loop-trip l = string_bytes l.rows ≡ joined (trip_row l.line) l.trip
