use Rattle.std.proofs.Common.{◌≡◌, map, drop}
use Rattle.httparse.specs.Spans.{header_bytes}
use Rattle.http_read.specs.Fields.{asks_to_close}
use Rattle.http_read.proofs.fields.asks_to_close.Given as goal

abbrev pub invariant-loop-line : goal.invariant-loop-line
invariant-loop-line l = asks_to_close (map (header_bytes l.text) (drop l.line-index l.lines)) ≡ asks_to_close (map (header_bytes l.text) l.lines)
