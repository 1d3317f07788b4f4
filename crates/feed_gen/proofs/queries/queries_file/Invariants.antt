use Rattle.std.proofs.Common.{◌≡◌, string_bytes}
use Rattle.feed_gen.specs.Tables.{query_line}
use Rattle.feed_gen.specs.Texts.{joined}
use Rattle.feed_gen.proofs.queries.queries_file.Given as goal

abbrev pub invariant-loop-place : goal.invariant-loop-place
invariant-loop-place l = string_bytes l.lines ≡ joined (query_line l.seed) l.place
