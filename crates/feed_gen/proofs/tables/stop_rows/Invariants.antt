use Rattle.std.proofs.Common.{◌≡◌, string_bytes}
use Rattle.feed_gen.specs.Tables.{stop_row}
use Rattle.feed_gen.specs.Texts.{joined}
use Rattle.feed_gen.proofs.tables.stop_rows.Given as goal

abbrev pub invariant-loop-stop : goal.invariant-loop-stop
invariant-loop-stop l = string_bytes l.rows ≡ joined stop_row l.stop
