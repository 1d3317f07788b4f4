use Rattle.std.proofs.Common.{◌≡◌, string_bytes}
use Rattle.feed_gen.specs.Tables.{line_rows}
use Rattle.feed_gen.specs.Texts.{joined}
use Rattle.feed_gen.proofs.calls.all_rows.Given as goal

abbrev pub invariant-loop-line : goal.invariant-loop-line
invariant-loop-line l = string_bytes l.rows ≡ joined (line_rows l.seed) l.line
